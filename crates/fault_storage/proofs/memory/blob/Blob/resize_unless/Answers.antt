use Rattle.std.proofs.Common.{◌≡◌, ◌+◌, ◌<◌, ◌∙◌, None, Some, ap, sym, inl, inr, refl, rules, arith}
use Rattle.fault_storage_parts.specs.DrawsCode.{rate_of}
use Rattle.fault_storage.specs.Stores.{withdrawn}
use Rattle.fault_storage.specs.Changes.{failed_resize}
use Rattle.fault_storage_parts.specs.Files.{resized, resized_to}
use Rattle.fault_storage.proofs.Revising.{withdrawn-issued}
use Rattle.fault_storage.proofs.Changing.{shortened-issued, resize-made, resize-failed}
use Rattle.fault_storage.proofs.memory.blob.Blob.resize_unless.Goals as goal

pub returns-then-not-sample : goal.returns-then-not-sample
returns-then-not-sample g c =
    let there : c.in-Some.all ≡ c.self.inside.offset + c.args.size = omega (arith, c.in-Some.ensures) in
    let near : c.in-Some.all < c.max.result + 1 = omega (arith, c.max.ensures) in
    let drawn = ap (λ d. d.0) c.sample.ensures in let words = ap (λ d. d.1) c.sample.ensures in
    inr (inr (inr (
      search rules,
      sym drawn ∙ search rules,
      refl,
      resize-made (rate_of c.args.settings.retention) c.args.self.now c.args.storage.now c.shorten_last.new.self c.self.inside.number c.self.inside.offset
          c.args.size c.in-Some.all c.self.inside.live.items
          c.reserve.new.self.items c.resize.new.file.items c.self.view_is there
          (shortened-issued c.self.inside.number c.max.result c.in-Some.all
          (rate_of c.args.settings.retention) c.args.storage.now c.issue.new.self c.shorten_last.new.self near c.in_ok-issue.ensures.ok
          c.shorten_last.ensures)
          c.reserve.ensures.items c.resize.ensures.resized,
      words,
    )))

pub returns-in_default-draw_length : goal.returns-in_default-draw_length
returns-in_default-draw_length g c =
    let there : c.in-Some.all ≡ c.self.inside.offset + c.args.size = omega (arith, c.in-Some.ensures) in
    let drawn = ap (λ d. d.0) c.sample.ensures in let words = ap (λ d. d.1) c.sample.ensures in
    inr (inr (inl (
      search rules,
      sym drawn ∙ search rules,
      refl,
      resize-failed c.args.settings c.args.self.now c.args.storage.now c.withdraw.new.self c.self.inside.number c.self.inside.offset c.args.size
          c.len-old.result c.in-Some.all c.self.inside.live.items
          c.reserve.new.self.items None (g.R.Rng.stream c.sample.new.rng) (g.R.Rng.stream c.draw_length.new.rng) c.self.view_is
          (search rules) there c.in_default-draw_length.ensures.drawn
          (ap (λ l. (record { number = c.self.inside.number; offset = c.self.inside.offset; live = l }, c.withdraw.new.self)) c.reserve.ensures.items
          ∙ ap (λ s. (record { number = c.self.inside.number; offset = c.self.inside.offset; live = c.self.inside.live.items }, s))
          (c.withdraw.ensures ∙ ap (withdrawn c.self.inside.number) c.in_ok-issue.ensures.ok
          ∙ withdrawn-issued c.self.inside.number (resized_to c.max.result (rate_of c.args.settings.retention)) c.args.storage.now))
          ∙ ap (failed_resize c.args.settings c.args.size c.args.self.now c.args.storage.now) words,
    )))

pub returns : goal.returns
returns g c =
    let there : c.in-Some.all ≡ c.self.inside.offset + c.args.size = omega (arith, c.in-Some.ensures) in
    let near : c.in-Some-draw_length.reached < c.max.result + 1 = omega (arith, c.max.ensures, c.in-Some-draw_length.ensures.below) in
    let drawn = ap (λ d. d.0) c.sample.ensures in let words = ap (λ d. d.1) c.sample.ensures in
    inr (inr (inl (
      search rules,
      sym drawn ∙ search rules,
      refl,
      resize-failed c.args.settings c.args.self.now c.args.storage.now c.shorten_last-2.new.self c.self.inside.number c.self.inside.offset c.args.size
          c.len-old.result c.in-Some.all c.self.inside.live.items
          c.resize-2.new.file.items (Some c.in-Some-draw_length.reached) (g.R.Rng.stream c.sample.new.rng)
          (g.R.Rng.stream c.draw_length.new.rng) c.self.view_is (search rules) there
          c.in-Some-draw_length.ensures.drawn
          (ap (λ l. (record { number = c.self.inside.number; offset = c.self.inside.offset; live = l }, c.shorten_last-2.new.self))
          (c.resize-2.ensures.resized ∙ ap (resized c.in-Some-draw_length.reached) c.reserve.ensures.items)
          ∙ ap (λ s. (
            record {
              number = c.self.inside.number;
              offset = c.self.inside.offset;
              live = resized c.in-Some-draw_length.reached
                  c.self.inside.live.items;
            },
            s,
          ))
          (shortened-issued c.self.inside.number c.max.result c.in-Some-draw_length.reached
          (rate_of c.args.settings.retention) c.args.storage.now c.issue.new.self c.shorten_last-2.new.self near c.in_ok-issue.ensures.ok
          c.shorten_last-2.ensures))
          ∙ ap (failed_resize c.args.settings c.args.size c.args.self.now c.args.storage.now) words,
    )))
