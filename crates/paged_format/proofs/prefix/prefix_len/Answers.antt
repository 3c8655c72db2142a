use Rattle.std.proofs.Common.{rules, ◌≡◌, ◌≤◌, ◌<◌, ℕ, List, ◌-◌, ◌^◌, length, take, drop, sym, ◌∙◌, ap, arith}
use Rattle.std.proofs.lemmas.List.{length-take-le, length-drop}
use Rattle.paged_format.specs.Pages.{shown_len, recovered}
use Rattle.paged_format.specs.Laws.Pages.{shown_within, length_recovered-whole, length_recovered-partial, length_recovered-none}
use Rattle.paged_format.proofs.prefix.prefix_len.Goals as goal

-- the first page that is left
first : (sum : List ℕ → ℕ) (size : ℕ) (rest page : List ℕ) (shown : ℕ) → page ≡ take size rest → size ≤ length rest
    → shown ≡ shown_len sum (length page) page
    → shown ≡ shown_len sum size (take size rest)
first sum size rest page shown is long shows =
    let fits : length page ≡ size = ap length is ∙ length-take-le size rest long in
    shows ∙ ap (λ n. shown_len sum n page) fits ∙ ap (shown_len sum size) is

pub returns-then-shown-whole : goal.returns-then-shown-whole
returns-then-shown-whole g c =
    let sum = g.C.Checksum.checksum_of in
    let size = c.args.physical_page_size in
    let rest = c.loop-rest.rest.now in
    let some : 0 < size = search rules in
    let shows = first sum size rest c.split_at.result.0.now c.shown_len-shown.result c.split_at.ensures.front c.loop-rest-test.true c.shown_len-shown.ensures in
    let left = length_recovered-partial sum size rest some c.loop-rest-test.true (omega (arith, shows, c.if-shown-whole.true)) in
    omega (arith, left, shows, c.loop-rest.invariant.known)

pub overflow_add-len : goal.overflow_add-len
overflow_add-len g c =
    let sum = g.C.Checksum.checksum_of in
    let size = c.args.physical_page_size in
    let page = c.split_at.result.0.now in
    let short : length page ≤ length c.loop-rest.rest.now = search rules in
    let within = shown_within sum (length page) page in
    let all : length c.args.pages.now < 2 ^ 64 = search rules in
    omega (arith, short, within, c.shown_len-shown.ensures, c.loop-rest.invariant.fits, all)

pub loop-rest-preserved : goal.loop-rest-preserved
loop-rest-preserved g c =
    let sum = g.C.Checksum.checksum_of in
    let size = c.args.physical_page_size in
    let rest = c.loop-rest.rest.now in
    let some : 0 < size = search rules in
    let shows = first sum size rest c.split_at.result.0.now c.shown_len-shown.result c.split_at.ensures.front c.loop-rest-test.true c.shown_len-shown.ensures in
    let within = shown_within sum size (take size rest) in
    let whole : shown_len sum size (take size rest) ≡ size - 12 = omega (arith, shows, within, c.if-shown-whole.false) in
    let left = length_recovered-whole sum size rest some c.loop-rest-test.true whole in
    let behind : length (recovered sum size (drop size rest)) ≡ length (recovered sum size c.split_at.result.1.now) =
    ap (λ bytes. length (recovered sum size bytes)) (sym c.split_at.ensures.back) in
    let cut : length c.split_at.result.1.now ≡ length rest - size = ap length c.split_at.ensures.back ∙ length-drop size rest in
    record {
      known = omega (arith, left, behind, shows, whole, c.loop-rest.invariant.known);
      fits = omega (arith, cut, shows, whole, c.loop-rest-test.true, c.loop-rest.invariant.fits);
    }

pub returns : goal.returns
returns g c =
    let none = length_recovered-none g.C.Checksum.checksum_of c.args.physical_page_size c.loop-rest.rest.now c.loop-rest-test.false in
    omega (arith, none, c.loop-rest.invariant.known)
