use Rattle.std.proofs.Common.{rules, ◌≡◌, ◌<◌, [], ◌∷◌, List, length, get_or, sym, subst}
use Rattle.paged_blob_parts.specs.Calls.{Call, content}
use Rattle.auth_store_device.specs.declared.kept.Kept.TheVariants.{SyncFailed}
use Rattle.auth_store_device.specs.RecordsCode.{call_in, calls_in, IsBase}
use Rattle.auth_store_device.proofs.KeptCalls.{within-at}
use Rattle.auth_store_device.proofs.Recorded.{file-below, file-brought, file-copied}
use Rattle.auth_store_device.proofs.base.Base.bring_file.Goals as goal
use Rattle.auth_store_device.proofs.base.Base.bring_file.Goals.{then-self+in_ok-self, else-self}

pub loop-self-init : goal.loop-self-init
loop-self-init c =
    let held = c.args.blocks.now in
    let calls = calls_in held [] c.args.calls.now.items in
    elim c.if-self.branch [
      | then-self+in_ok-self w ↦ (
        subst (IsBase held calls) (sym w.self-is) (file-copied held calls c.args.self.now w.in_ok-self.field-0 (search rules) c.requires.base),
        search rules,
      )
      | else-self w ↦ (subst (IsBase held calls) (sym w.self-is) c.requires.base, search rules)
    ]

pub get-requires : goal.get-requires
get-requires c = file-below c.args.blocks.now c.args.calls.now.items c.loop-self.self c.loop-self.invariant.0 (search rules)

pub make_call-requires : goal.make_call-requires
make_call-requires c =
    let held = c.args.blocks.now in
    let calls = c.args.calls.now.items in
    let below : c.loop-self.self.file_at < length calls = file-below held calls c.loop-self.self c.loop-self.invariant.0 (search rules) in
    search (rules, (within-at held [] calls c.loop-self.self.file_at SyncFailed below c.requires.within).0)

pub loop-self-preserved : goal.loop-self-preserved
loop-self-preserved c =
    let held = c.args.blocks.now in
    let calls = c.args.calls.now.items in
    let now = c.loop-self.self in
    let made : (past : List Call) → now.file.items ≡ content past
    → c.make_call.new.file.items ≡ content (call_in held past (get_or calls now.file_at SyncFailed) ∷ past) =
    λ past is. search (rules, c.make_call.ensures.ok past is) in
    (file-brought held calls now SyncFailed c.make_call.new.file c.loop-self.invariant.0 (search rules) made, search rules)
