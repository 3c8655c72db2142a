use Rattle.std.proofs.Common.{◌≡◌, ℕ, List, Option, Some, None, arith}
use Rattle.auth_store_client.proofs.laws.claims_without_operations_are_not_shown.Goals as goal

pub returns-clause-range : goal.returns-clause-range
returns-clause-range g c start active root bytes shown = omega (arith, shown.verifies.shaped.some)

pub returns-clause-slice : goal.returns-clause-slice
returns-clause-slice g c start root bytes shown =
    absurd (let clash : ◌≡◌ {A = Option (List ℕ)} None (Some shown.verifies.operations_root) = shown.verifies.leads in cc)
