use Rattle.std.proofs.Common.{◌≡◌, ◌+◌, ◌-◌, ◌∙◌, ap, sym, inl, inr, length, refl, rules, arith}
use Rattle.fault_storage_parts.specs.FilesCode.{mutation_of}
use Rattle.fault_storage.specs.Changes.{failed_write}
use Rattle.fault_storage.proofs.Changing.{write-failed, write-made}
use Rattle.fault_storage.proofs.memory.blob.Blob.write_unless.Goals as goal

pub returns-then-sample : goal.returns-then-sample
returns-then-sample g c =
    let offset : c.self.inside.offset ≡ c.args.self.now.offset = ap (λ h. h.offset) c.self.view_is in
    let there : c.in-Some.end - length c.args.bytes.now ≡ c.self.inside.offset + c.args.offset = omega (arith, c.in-Some.ensures) in
    let drawn = ap (λ d. d.0) c.sample.ensures in let words = ap (λ d. d.1) c.sample.ensures in
    inr (inr (inl (
      search rules,
      sym drawn ∙ c.if-sample.true,
      refl,
      write-failed c.args.settings c.args.mode c.args.offset c.args.bytes.now c.args.self.now c.args.storage.now c.issue.new.self c.fix_last.new.self
          c.self.inside.number c.self.inside.offset
          (c.in-Some.end - length c.args.bytes.now) c.self.inside.live.items c.reserve.new.self.items c.put_kept.new.file.items c.draw_kept.new.kept.items
          c.deref.result.now
          (g.R.Rng.stream c.sample.new.rng) (g.R.Rng.stream c.draw_kept.new.rng)
          (mutation_of c.in_ok-mutation.mutation) c.self.view_is there c.in_ok-mutation.ensures c.in_ok-issue.ensures.ok c.fix_last.ensures
          c.reserve.ensures.items c.deref.ensures.value c.put_kept.ensures.put c.draw_kept.ensures
          ∙ ap (failed_write c.args.settings c.args.offset c.args.bytes.now c.args.self.now c.args.storage.now) words,
    )))

pub returns : goal.returns
returns g c =
    let there : c.in-Some.end - length c.args.bytes.now ≡ c.self.inside.offset + c.args.offset = omega (arith, c.in-Some.ensures) in
    let drawn = ap (λ d. d.0) c.sample.ensures in let words = ap (λ d. d.1) c.sample.ensures in
    inr (inr (inr (
      search rules,
      sym drawn ∙ c.if-sample.false,
      refl,
      write-made c.args.settings c.args.mode c.args.offset c.args.bytes.now c.args.self.now c.args.storage.now c.issue.new.self c.self.inside.number
          c.self.inside.offset
          (c.in-Some.end - length c.args.bytes.now) c.self.inside.live.items c.reserve.new.self.items c.show_write.new.live.items
          (mutation_of c.in_ok-mutation.mutation) c.self.view_is there
          c.in_ok-mutation.ensures c.in_ok-issue.ensures.ok c.reserve.ensures.items c.show_write.ensures,
      words,
    )))
