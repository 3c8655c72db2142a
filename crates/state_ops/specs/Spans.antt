-- The span of an update: the keys from its own up to the next one, of which a state has its own alone.
--
-- Keys in their order, a state with the keys c, f and m, and the spans that their updates tell:
--
--      a b [c d e) [f g .. l) [m n .. z            of c: c up to f; of f: f up to m;
--      ...)                                        of m, whose next key is c: from m on, and before c
use Rattle.std.specs.Prelude.{◌≡◌, ℕ, ◌&&◌, ◌||◌, not, Bool, true, List}
use Rattle.std.specs.Cmp.Lexicographic.{slice_cmp}
use Rattle.std.specs.Ordering.{nat_cmp, is_lt}
use Rattle.std.specs.declared.cmp.Ordering.{Ordering}
use Rattle.std.specs.declared.cmp.Ordering.TheVariants.{Less, Equal, Greater}

-- the key stands before the other one, in the order of bytes
abbrev pub is_below : List ℕ → List ℕ → Bool
is_below one other = is_lt (slice_cmp nat_cmp one other)

-- the span that begins with a key and ends before the next one holds a third, where it stands before these or not;
-- where the next key is not above the key the span goes round the end, and where it is the same one it holds every key
abbrev pub span_holds : Ordering → Bool → Bool → Bool
span_holds Less below_key below_next = not below_key && below_next
span_holds Equal below_key below_next = true
span_holds Greater below_key below_next = not below_key || below_next

abbrev pub is_in_span : List ℕ → List ℕ → List ℕ → Bool
is_in_span key next asked = span_holds (slice_cmp nat_cmp key next) (is_below asked key) (is_below asked next)

-- the asked key stands in the span of the update, and is not the update's own
abbrev pub IsLeftOut : List ℕ → List ℕ → List ℕ → Type 0
IsLeftOut key next asked = (asked ≡ key → ⊥) × (is_in_span key next asked ≡ true)
