use Rattle.std.proofs.Common.{◌∙◌, List, ℕ, ap, sym}
use Rattle.state_proofs.specs.Exclusion.{by_update}
use Rattle.state_proofs.specs.ProofsCode.{parts_of}
use Rattle.state_theory.specs.Verified.{Parts}
use Rattle.auth_store_proving.proofs.Absences.{fields_found}
use Rattle.auth_store_proving.proofs.absence.proof_by_update.Goals as goal

pub returns-clause-by : goal.returns-clause-by
returns-clause-by g c value next is =
    let parts : Parts = parts_of g.D.Write.encoding g.F.PendingOf.held c.args.proof in
    let update = c.in_ok-value.field-0 in
    let own : List ℕ = g.V.Write.encoding update.value in
    let end : List ℕ = g.K.Write.encoding update.next_key in
    let fields = fields_found own end value next (sym c.in_ok-value.ensures.update ∙ is) in
    let key_copied = g.met.K.Faithful.copied c.args.key.now c.in_ok-key.key c.in_ok-key.ensures.cases in
    ap (λ (k : List ℕ). by_update parts k own end) key_copied
    ∙ (ap (λ (v : List ℕ). by_update parts (g.K.Write.encoding c.args.key.now) v end) fields.0
    ∙ ap (λ (n : List ℕ). by_update parts (g.K.Write.encoding c.args.key.now) value n) fields.1)
