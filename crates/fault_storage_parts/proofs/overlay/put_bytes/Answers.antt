use Rattle.std.proofs.Common.{rules, ◌++◌, ◌+◌, length, take, drop, ap, ◌∙◌}
use Rattle.std.proofs.lemmas.List.{take_at}
use Rattle.fault_storage_parts.proofs.Overlays.{laid-over}
use Rattle.fault_storage_parts.proofs.overlay.put_bytes.Goals as goal

pub returns : goal.returns
returns c = record {
  put = take_at c.overwrite.new.file (drop (length c.overwrite.new.file) c.grow.new.file.items) c.grow.new.file.len (search rules) ∙ c.overwrite.ensures
      ∙ ap (λ d. take c.args.offset d ++ (c.args.bytes.now ++ drop (c.args.offset + length c.args.bytes.now) d))
      (c.deref_mut.ensures.value ∙ c.grow.ensures.grown)
      ∙ laid-over c.args.offset c.args.bytes.now c.args.file.now.items;
}
