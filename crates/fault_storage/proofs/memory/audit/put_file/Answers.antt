use Rattle.std.proofs.Common.{◌≡◌, ◌++◌, ℕ, List, append_assoc, ap, ◌∙◌}
use Rattle.fault_storage_parts.specs.Files.{durable_bytes}
use Rattle.fault_storage.specs.Audits.{framed, file_told}
use Rattle.fault_storage.proofs.memory.audit.put_file.Goals as goal

-- three parts that are put one behind the other are put as one
joined : (before first second third one other further : List ℕ) → first ≡ before ++ one → second ≡ first ++ other → third ≡ second ++ further
    → third ≡ before ++ (one ++ other ++ further)
joined before first second third one other further a b c = c ∙ ap (λ l. l ++ further) (b ∙ ap (λ l. l ++ other) a) ∙ simp append_assoc

pub returns : goal.returns
unfolding file_told
returns c =
    let stored = c.args.stored.now in
    let before = c.args.told.now.items in
    let first = c.put_framed.new.told.items in
    let second = c.put_framed-2.new.told.items in
    let a : first ≡ before ++ framed stored.name.0 =
    c.in_ok-put_framed.ensures ∙ ap (λ l. before ++ framed l) (c.as_bytes.ensures.value ∙ c.partition.ensures) in
    let b : second ≡ first ++ framed stored.name.1 = c.in_ok-put_framed-2.ensures ∙ ap (λ l. first ++ framed l) c.name.ensures in
    let d : c.put_framed-3.new.told.items ≡ second ++ framed (durable_bytes stored.file.base stored.file.log) =
    c.in_ok-put_framed-3.ensures ∙ ap (λ l. second ++ framed l) (c.deref.ensures.value ∙ c.in_ok-bytes.ensures) in
    joined before first second c.put_framed-3.new.told.items (framed stored.name.0) (framed stored.name.1)
    (framed (durable_bytes stored.file.base stored.file.log)) a b d
