use Rattle.std.proofs.Common.{rules, ◌≡◌, ◌∙◌, ◌-◌, ◌++◌, ℕ, List, length, take, replicate, length-append, append_assoc, ap, arith}
use Rattle.std.proofs.lemmas.List.{take_all}
use Rattle.std.specs.Int.{w32, to_be_bytes}
use Rattle.fault_storage_parts.proofs.header.checked_region.Goals as goal

-- twelve bytes and the zeros after them
padded : (front sum both region : List ℕ) (held : ℕ) → both ≡ front ++ sum → length front ≡ 8 → length sum ≡ 4 → held ≡ length both
    → region ≡ take 4096 both ++ replicate (4096 - held) 0 → region ≡ front ++ (sum ++ replicate 4084 0)
padded front sum both region held joins eight four counts is =
    let long : length both ≡ 12 = ap length joins ∙ length-append front sum ∙ omega (arith, eight, four) in
    let missing : 4096 - held ≡ 4084 = omega (arith, counts, long) in
    is ∙ ap (λ bytes. bytes ++ replicate (4096 - held) 0) (take_all 4096 both (omega (arith, long))) ∙ ap (λ n. both ++ replicate n 0) missing
    ∙ ap (λ bytes. bytes ++ replicate 4084 0) joins ∙ append_assoc front sum (replicate 4084 0)

pub returns : goal.returns
returns c =
    let copied = c.in_ok-region.ensures.items_if_clones_equal (λ x y same. same) in
    let joins : c.extend_from_slice.new.self.items ≡ c.args.prelude.now ++ c.to_be_bytes.result =
    c.in_ok-extend_from_slice.ensures.items ∙ ap (λ front. front ++ c.to_be_bytes.result) copied in
    padded c.args.prelude.now c.to_be_bytes.result c.extend_from_slice.new.self.items c.resize.new.self.items _ joins (search rules) (search rules)
    (search rules) c.in_ok-resize.ensures.items
    ∙ ap (λ bytes. c.args.prelude.now ++ (bytes ++ replicate 4084 0)) (c.to_be_bytes.ensures ∙ ap (to_be_bytes w32) c.checksum.ensures)
