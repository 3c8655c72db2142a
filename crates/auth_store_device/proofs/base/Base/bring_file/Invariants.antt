use Rattle.std.proofs.Common.{◌≡◌, ◌-◌, []}
use Rattle.auth_store_device.specs.RecordsCode.{calls_in, IsBase}
use Rattle.auth_store_device.proofs.base.Base.bring_file.Given as goal

abbrev pub invariant-loop-self : goal.invariant-loop-self
invariant-loop-self l =
    IsBase l.blocks (calls_in l.blocks [] l.calls.items) l.self
    × (l.self ≡ record l.initial.self { file = l.self.file; file_at = l.self.file_at })

abbrev pub decreases-loop-self : goal.decreases-loop-self
decreases-loop-self l = l.self.base_at - l.self.file_at
