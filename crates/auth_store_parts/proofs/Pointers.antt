-- Keys in their order, and the pointers of a walk among them.
use Rattle.std.proofs.Common.{◌≡◌, ℕ, true, false, cond, List, [], ◌∷◌, None, Some, refl, ap, sym, ◌∙◌, subst, ⊎_elim}
use Rattle.std.proofs.lemmas.Bool.{cases_Bool}
use Rattle.std.proofs.lemmas.Cmp.{nat_list_cmp_total}
use Rattle.std.specs.declared.cmp.Ordering.{Ordering}
use Rattle.std.specs.declared.cmp.Ordering.TheVariants.{Less, Equal, Greater}
use Rattle.std.specs.Cmp.{tied_itself}
use Rattle.std.specs.Ordering.{match_ordering, is_lt, ordering_reverse}
use Rattle.std.specs.FinMap.Entries.{below_all}
use Rattle.auth_store_parts.specs.Map.{Map, key_order, with_entry}
use Rattle.auth_store_parts.specs.History.{IsState}
use Rattle.auth_store_parts.specs.Chains.{Pointer, first_of, behind, is_at_key, is_past, is_one}
use Rattle.auth_store_parts.specs.Laws.Logs.{equal_bytes}
use Rattle.auth_store_parts.specs.Laws.Lookups.{IsState-with_entry}
use Rattle.auth_store_parts.specs.Laws.Neighbours.{first, is}

less : (o : Ordering) → is_lt o ≡ true → o ≡ Less
less Less e = refl
less Equal e = absurd (cc)
less Greater e = absurd (cc)

pub transitive : (k l m : List ℕ) → is_lt (key_order k l) ≡ true → is_lt (key_order l m) ≡ true
    → is_lt (key_order k m) ≡ true
transitive k l m s t = ap is_lt (nat_list_cmp_total.trans k l m (less _ s) (less _ t))

pub not_itself : (k : List ℕ) → is_lt (key_order k k) ≡ false
not_itself k = ap is_lt (tied_itself nat_list_cmp_total k)

pub one_way : (k l : List ℕ) → is_lt (key_order k l) ≡ true → is_lt (key_order l k) ≡ false
one_way k l below = ap is_lt (nat_list_cmp_total.antisymm l k ∙ ap ordering_reverse (less _ below))

-- a pointer stands at one key
pub at_key : (p : Pointer) (k : List ℕ) → is_at_key p k ≡ true → p ≡ Some k
at_key None k e = absurd (cc)
at_key (Some at) k e = ap (λ x. Some x) (equal_bytes at k e)

pub one : (p q : Pointer) → is_one p q ≡ true → p ≡ q
one None None e = refl
one (Some at) None e = absurd (cc)
one p (Some k) e = at_key p k e

-- no pointer stands at a key and has passed it
pub apart : (p : Pointer) (k : List ℕ) → is_at_key p k ≡ true → is_past p k ≡ true → ⊥
apart None k at over = cc
apart (Some x) k at over =
    let itself : is_lt (key_order k k) ≡ true = ap (λ l. is_lt (key_order k l)) (sym (equal_bytes x k at)) ∙ over in
    let never : is_lt (key_order k k) ≡ false = not_itself k in cc

pub behind_past : (k n : List ℕ) → is_past (behind k n) k ≡ true
behind_past k n = ⊎_elim
    (λ t. ap (λ b. is_past (cond b (Some n) None) k) t ∙ t)
    (λ f. ap (λ b. is_past (cond b (Some n) None) k) f)
    (cases_Bool (is_lt (key_order k n)))

-- the pointer at what stands behind an entry of a state has passed it
pub past_tail : (e : List ℕ × List ℕ) (s : Map) → IsState (e ∷ s) → is_past (first_of s) e.0 ≡ true
past_tail e [] sorted = refl
past_tail e (f ∷ s) sorted =
    is _ (first _ (below_all key_order e.0 s) (first (below_all key_order e.0 (f ∷ s)) _ sorted))

-- and an entry that such a pointer has passed may stand in front
pub front : (e : List ℕ × List ℕ) (s : Map) → is_past (first_of s) e.0 ≡ true → IsState s → IsState (e ∷ s)
front e [] passed sorted = tt
front e (f ∷ s) passed sorted =
    subst (λ o. IsState (match_ordering o (e ∷ f ∷ s) ((f.0, e.1) ∷ s) (f ∷ with_entry s e.0 e.1)))
    (less (key_order e.0 f.0) passed) (IsState-with_entry (f ∷ s) e.0 e.1 sorted)
