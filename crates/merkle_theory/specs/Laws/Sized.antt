-- The digests of a range proof have the size of a digest.
use Rattle.std.proofs.Common.{◌≡◌, ℕ, ◌+◌, Bool, true, false, cond, List, [], ◌∷◌, ◌++◌, length}
use Rattle.std.specs.List.{All, flat_map, filter}
use Rattle.std.proofs.lemmas.List.Elements.{All-nil, All-cons, All-head, All-append}
use Rattle.merkle_forest.specs.declared.bagging.Bagging.{Bagging}
use Rattle.merkle_forest.specs.declared.bagging.Bagging.TheVariants.{ForwardFold, BackwardFold}
use Rattle.merkle_forest.specs.Forest.{Tree, leaf, branch, leaf_count}
use Rattle.merkle_forest.specs.Hashing.{Hash, fold_string, folded_onto, folded_forward, folded_backward}
use Rattle.merkle_forest.specs.Trees.{Located}
use Rattle.merkle_theory.specs.Ranges.{Digests, is_before, is_after, meets, as_one, singly, siblings, before_digests}
use Rattle.merkle_theory.specs.Ranges.{after_digests, inner_digests, range_digests}

-- all of these have so many bytes
abbrev pub AreSized : ℕ → List (List ℕ) → Type 0
AreSized size digests = All (λ digest. length digest ≡ size) digests

none_sized : (size : ℕ) → AreSized size []
none_sized size = All-nil (λ digest. length digest ≡ size)

one_sized : (size : ℕ) (d : List ℕ) → length d ≡ size → AreSized size (d ∷ [])
one_sized size d is = All-cons (λ digest. length digest ≡ size) d [] is (none_sized size)

both_sized : (size : ℕ) (ds es : List (List ℕ)) → AreSized size ds → AreSized size es → AreSized size (ds ++ es)
both_sized size ds es d e = All-append (λ digest. length digest ≡ size) ds es d e

cond_sized : (size : ℕ) (test : Bool) (ds es : List (List ℕ)) → AreSized size ds → AreSized size es
    → AreSized size (cond test ds es)
cond_sized size true ds es d e = d
cond_sized size false ds es d e = e

-- what a hash function and the digests of trees give
abbrev pub IsSized : ℕ → Hash → Type 0
IsSized size hash = (bytes : List ℕ) → length (hash bytes) ≡ size

abbrev pub Gives : ℕ → Digests → Type 0
Gives size digest = (at : ℕ) (t : Tree) → length (digest at t) ≡ size

singly_sized : (size : ℕ) (digest : Digests) (peaks : List Located) → Gives size digest
    → AreSized size (singly digest peaks)
singly_sized size digest [] gives = none_sized size
singly_sized size digest (p ∷ peaks) gives =
    All-cons (λ d. length d ≡ size) (digest p.0 p.1) (singly digest peaks) (gives p.0 p.1)
    (singly_sized size digest peaks gives)

onto_sized : (size : ℕ) (hash : Hash) (d : List ℕ) (ds : List (List ℕ)) → IsSized size hash → length d ≡ size
    → length (folded_onto hash d ds) ≡ size
onto_sized size hash d [] sized is = is
onto_sized size hash d (e ∷ ds) sized is =
    onto_sized size hash (hash (fold_string d e)) ds sized (sized (fold_string d e))

forward_sized : (size : ℕ) (hash : Hash) (ds : List (List ℕ)) → IsSized size hash → AreSized size ds
    → AreSized size (as_one (folded_forward hash) ds)
forward_sized size hash [] sized are = none_sized size
forward_sized size hash (d ∷ ds) sized are =
    one_sized size (folded_onto hash d ds) (onto_sized size hash d ds sized (All-head (λ b. length b ≡ size) d ds are))

backward_sized : (size : ℕ) (hash : Hash) (ds : List (List ℕ)) → IsSized size hash → AreSized size ds
    → AreSized size (as_one (folded_backward hash) ds)
backward_sized size hash [] sized are = none_sized size
backward_sized size hash (d ∷ []) sized are = one_sized size d (All-head (λ b. length b ≡ size) d [] are)
backward_sized size hash (d ∷ e ∷ ds) sized are =
    one_sized size (hash (fold_string d (folded_backward hash (e ∷ ds))))
    (sized (fold_string d (folded_backward hash (e ∷ ds))))

siblings_sized : (size : ℕ) (digest : Digests) (start stop at : ℕ) (t : Tree) → Gives size digest
    → AreSized size (siblings digest start stop at t)
siblings_sized size digest start stop at (leaf p) gives =
    cond_sized size (meets start stop (at, leaf p)) [] (digest at (leaf p) ∷ []) (none_sized size)
    (one_sized size (digest at (leaf p)) (gives at (leaf p)))
siblings_sized size digest start stop at (branch p left right) gives =
    cond_sized size (meets start stop (at, branch p left right))
    (siblings digest start stop at left ++ siblings digest start stop (at + leaf_count left) right)
    (digest at (branch p left right) ∷ [])
    (both_sized size (siblings digest start stop at left) (siblings digest start stop (at + leaf_count left) right)
    (siblings_sized size digest start stop at left gives)
    (siblings_sized size digest start stop (at + leaf_count left) right gives))
    (one_sized size (digest at (branch p left right)) (gives at (branch p left right)))

inner_sized : (size : ℕ) (digest : Digests) (start stop : ℕ) (peaks : List Located) → Gives size digest
    → AreSized size (flat_map (λ peak. siblings digest start stop peak.0 peak.1) peaks)
inner_sized size digest start stop [] gives = none_sized size
inner_sized size digest start stop (p ∷ peaks) gives =
    both_sized size (siblings digest start stop p.0 p.1)
    (flat_map (λ peak. siblings digest start stop peak.0 peak.1) peaks)
    (siblings_sized size digest start stop p.0 p.1 gives) (inner_sized size digest start stop peaks gives)

before_sized : (size : ℕ) (hash : Hash) (digest : Digests) (bagging : Bagging) (start : ℕ)
    (inactive active : List Located) → IsSized size hash → Gives size digest
    → AreSized size (before_digests hash digest bagging start inactive active)
before_sized size hash digest BackwardFold start inactive active sized gives =
    both_sized size (as_one (folded_forward hash) (singly digest (filter (is_before start) inactive)))
    (singly digest (filter (is_before start) active))
    (forward_sized size hash (singly digest (filter (is_before start) inactive)) sized
    (singly_sized size digest (filter (is_before start) inactive) gives))
    (singly_sized size digest (filter (is_before start) active) gives)
before_sized size hash digest ForwardFold start inactive active sized gives =
    forward_sized size hash (singly digest (filter (is_before start) inactive) ++ singly digest
    (filter (is_before start) active)) sized
    (both_sized size (singly digest (filter (is_before start) inactive))
    (singly digest (filter (is_before start) active))
    (singly_sized size digest (filter (is_before start) inactive) gives)
    (singly_sized size digest (filter (is_before start) active) gives))

after_sized : (size : ℕ) (hash : Hash) (digest : Digests) (bagging : Bagging) (stop : ℕ)
    (inactive active : List Located) → IsSized size hash → Gives size digest
    → AreSized size (after_digests hash digest bagging stop inactive active)
after_sized size hash digest BackwardFold stop inactive active sized gives =
    both_sized size (singly digest (filter (is_after stop) inactive))
    (as_one (folded_backward hash) (singly digest (filter (is_after stop) active)))
    (singly_sized size digest (filter (is_after stop) inactive) gives)
    (backward_sized size hash (singly digest (filter (is_after stop) active)) sized
    (singly_sized size digest (filter (is_after stop) active) gives))
after_sized size hash digest ForwardFold stop inactive active sized gives =
    both_sized size (singly digest (filter (is_after stop) inactive)) (singly digest (filter (is_after stop) active))
    (singly_sized size digest (filter (is_after stop) inactive) gives)
    (singly_sized size digest (filter (is_after stop) active) gives)

pub range_sized : (size : ℕ) (hash : Hash) (digest : Digests) (bagging : Bagging) (start stop : ℕ)
    (inactive active : List Located) → IsSized size hash → Gives size digest
    → AreSized size (range_digests hash digest bagging start stop inactive active)
range_sized size hash digest bagging start stop inactive active sized gives =
    let one : List (List ℕ) = before_digests hash digest bagging start inactive active in
    let two : List (List ℕ) = after_digests hash digest bagging stop inactive active in
    let three : List (List ℕ) = inner_digests digest start stop inactive in
    let four : List (List ℕ) = inner_digests digest start stop active in
    both_sized size ((one ++ two) ++ three) four
    (both_sized size (one ++ two) three (both_sized size one two
    (before_sized size hash digest bagging start inactive active sized gives)
    (after_sized size hash digest bagging stop inactive active sized gives))
    (inner_sized size digest start stop (filter (meets start stop) inactive) gives))
    (inner_sized size digest start stop (filter (meets start stop) active) gives)
