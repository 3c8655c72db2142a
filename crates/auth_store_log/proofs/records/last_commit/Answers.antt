use Rattle.std.proofs.Common.{◌≡◌, ◌∙◌, ◌-◌, ℕ, Bool, true, false, suc, sym, ap, arith, List, take, drop, ◌*◌}
use Rattle.auth_store_log.specs.Records.{format_of, is_commit_record, pieces, up_to_last}
use Rattle.auth_store_log.proofs.Found.{last_is, last_is_not}
use Rattle.auth_store_log.proofs.records.last_commit.Goals as goal

pub returns-then-branch-clause-found : goal.returns-then-branch-clause-found
returns-then-branch-clause-found g c =
    let passes : List ℕ → Bool = is_commit_record (format_of (g.K.Read.after tt) (g.V.Read.after tt) g.K.FixedSize.SIZE g.V.FixedSize.SIZE) in
    let size = c.args.size in
    let count : ℕ = c.loop-left.left - 1 in
    let bytes : List ℕ = c.args.bytes.now in
    let one : suc count ≡ c.loop-left.left = omega (arith, c.loop-left-test.true) in
    let is : passes (take size (drop (count * size) bytes)) ≡ true =
    ap passes (sym c.record_at-record.ensures) ∙ sym c.in_ok-is_commit.ensures.exact ∙ c.if-branch.true in
    sym one ∙ sym (last_is passes size count bytes is) ∙ ap (λ n. up_to_last passes (pieces size n bytes)) one ∙ c.loop-left.invariant.found

pub loop-left-preserved : goal.loop-left-preserved
loop-left-preserved g c =
    let passes : List ℕ → Bool = is_commit_record (format_of (g.K.Read.after tt) (g.V.Read.after tt) g.K.FixedSize.SIZE g.V.FixedSize.SIZE) in
    let size = c.args.size in
    let count : ℕ = c.loop-left.left - 1 in
    let bytes : List ℕ = c.args.bytes.now in
    let one : suc count ≡ c.loop-left.left = omega (arith, c.loop-left-test.true) in
    let is : passes (take size (drop (count * size) bytes)) ≡ false =
    ap passes (sym c.record_at-record.ensures) ∙ sym c.in_ok-is_commit.ensures.exact ∙ c.if-branch.false in
    record {
      within = omega (arith, c.loop-left.invariant.within);
      found = sym (last_is_not passes size count bytes is) ∙ ap (λ n. up_to_last passes (pieces size n bytes)) one ∙ c.loop-left.invariant.found;
    }
