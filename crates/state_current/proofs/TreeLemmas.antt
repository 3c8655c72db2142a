-- Trees that are brought to a state that has grown, over plain values.
use Rattle.std.proofs.Common.{◌≡◌, ℕ, zero, suc, ◌+◌, ◌-◌, ◌/◌, ◌<◌, ◌≤◌, Bool, true, false, cond, List, [], ◌∷◌}
use Rattle.std.proofs.Common.{◌++◌, append-nil, length, map, take, get_or, None, Some}
use Rattle.std.proofs.Common.{refl, sym, ◌∙◌, ap, subst, arith}
use Rattle.std.proofs.Common.{Result, Ok, Err}
use Rattle.std.specs.Prelude.{IfOk}
use Rattle.std.specs.List.{AllByRecursion}
use Rattle.std.specs.Prelude.{slice_get, nat_lt}
use Rattle.std.proofs.lemmas.Bool.{cond-true, cond-false, lt-ltb, le-ltb}
use Rattle.merkle_forest.specs.Forest.{Rule}
use Rattle.merkle_forest.specs.Hashing.{Hash, leaf_string}
use Rattle.merkle_core_parts.specs.Laws.Layers.{first-own}
use Rattle.merkle_core_parts.specs.Laws.Plain.{length-plain}
use Rattle.merkle_core_parts.specs.Layers.{IsFirstAt, bases, with_layers}
use Rattle.merkle_core_parts.specs.Mem.{Additions, AreNodesOf, NodeHash, Growth, Nodes, base_of, node_count, plain_leaf_digests, replaced, with_batch}
use Rattle.state_current.specs.ChunkLeaves.{leaves_from, leaves_over}

-- a batch over a tree that is its own base is applied alone
pub applied_alone : (rule : Rule) (tree after : Nodes) (batch : Growth) (count : ℕ) → batch.base ≡ base_of rule tree
    → IsFirstAt (base_of rule tree) (bases batch.base batch.below) count
    → after ≡ with_batch rule (with_layers rule tree (take count batch.below)) batch → after ≡ with_batch rule tree batch
applied_alone rule tree after batch count base first is =
    is ∙ ap (λ n. with_batch rule (with_layers rule tree (take n batch.below)) batch)
    (first-own (base_of rule tree) batch.base (map (λ layer. layer.base) batch.below) count base first)

-- ---- plain leaves, one after the other
pub plain_append : (hash : Hash) (rule : Rule) (first : ℕ) (xs ys : List (List ℕ))
    → plain_leaf_digests hash rule first (xs ++ ys) ≡ plain_leaf_digests hash rule first xs ++ plain_leaf_digests hash rule (first + length xs) ys
plain_append hash rule first [] ys = let same : first ≡ first + 0 = omega arith in ap (λ n. plain_leaf_digests hash rule n ys) same
plain_append hash rule first (x ∷ xs) ys =
    let same : suc first + length xs ≡ first + suc (length xs) = omega arith in
    ap (λ rest. hash (leaf_string (node_count rule first) x) ∷ rest)
    (plain_append hash rule (suc first) xs ys ∙ ap (λ n. plain_leaf_digests hash rule (suc first) xs ++ plain_leaf_digests hash rule n ys) same)

pub get_take : {A : Type 0} (xs : List A) (i : ℕ) (x : A) → slice_get xs i ≡ Some x → take (i + 1) xs ≡ take i xs ++ x ∷ []
get_take [] i x is = absurd (let e : None ≡ Some x = is in cc)
get_take (y ∷ xs) zero x is = let e : Some y ≡ Some x = is in let same : y ≡ x = cc in ap (λ z. z ∷ []) same
get_take (y ∷ xs) (suc i) x is =
    let same : suc i + 1 ≡ suc (i + 1) = omega arith in
    ap (λ n. take n (y ∷ xs)) same ∙ ap (λ rest. y ∷ rest) (get_take xs i x is)

pub operation_next : (hash : Hash) (rule : Rule) (batch now more : Additions) (front : List (List ℕ)) (e : List ℕ)
    → now ≡ record batch { added = plain_leaf_digests hash rule batch.base.leaves front }
    → more ≡ record now { added = now.added ++ hash (leaf_string (node_count rule (now.base.leaves + length now.added)) e) ∷ [] }
    → more ≡ record batch { added = plain_leaf_digests hash rule batch.base.leaves (front ++ e ∷ []) }
operation_next hash rule batch now more front e is more_is =
    let first : ℕ = batch.base.leaves in
    let own : List (List ℕ) = plain_leaf_digests hash rule first front in
    more_is
    ∙ ap (λ (n : Additions). record n { added = n.added ++ hash (leaf_string (node_count rule (n.base.leaves + length n.added)) e) ∷ [] }) is
    ∙ ap (λ (k : ℕ). record batch { added = own ++ hash (leaf_string (node_count rule (first + k)) e) ∷ [] }) (length-plain hash rule first front)
    ∙ ap (λ ds. record batch { added = ds }) (sym (plain_append hash rule first front (e ∷ [])))

-- ---- leaves of chunks
pub length-leaves_from : (leaf : ℕ → List ℕ) (first count : ℕ) → length (leaves_from leaf first count) ≡ count
length-leaves_from leaf first zero = refl
length-leaves_from leaf first (suc count) = ap (λ n. suc n) (length-leaves_from leaf (suc first) count)

pub leaves_from-more : (leaf : ℕ → List ℕ) (first count : ℕ)
    → leaves_from leaf first (suc count) ≡ leaves_from leaf first count ++ leaf (first + count) ∷ []
leaves_from-more leaf first zero = let same : first ≡ first + 0 = omega arith in ap (λ n. leaf n ∷ []) same
leaves_from-more leaf first (suc count) =
    let same : suc first + count ≡ first + suc count = omega arith in
    ap (λ rest. leaf first ∷ rest) (leaves_from-more leaf (suc first) count
    ∙ ap (λ n. leaves_from leaf (suc first) count ++ leaf n ∷ []) same)

pub get-leaves_from : (leaf : ℕ → List ℕ) (first count i : ℕ) (d : List ℕ) → slice_get (leaves_from leaf first count) i ≡ Some d
    → (d ≡ leaf (first + i)) × (i < count)
get-leaves_from leaf first zero i d is = absurd (let e : None ≡ Some d = is in cc)
get-leaves_from leaf first (suc count) zero d is =
    let e : Some (leaf first) ≡ Some d = is in
    let same : leaf first ≡ d = cc in
    let at : first ≡ first + 0 = omega arith in
    (sym same ∙ ap leaf at, omega arith)
get-leaves_from leaf first (suc count) (suc i) d is =
    let rest = get-leaves_from leaf (suc first) count i d is in
    let at : suc first + i ≡ first + suc i = omega arith in
    (rest.0 ∙ ap leaf at, omega (arith, rest.1))

pub leaf_next : (leaf : ℕ → List ℕ) (batch now more : Additions) (first chunk : ℕ) (digest : List ℕ) → first ≤ chunk
    → now ≡ record batch { added = leaves_from leaf first (chunk - first) } → digest ≡ leaf chunk
    → more ≡ record now { added = now.added ++ digest ∷ [] }
    → more ≡ record batch { added = leaves_from leaf first (chunk + 1 - first) }
leaf_next leaf batch now more first chunk digest le is digest_is more_is =
    let count : ℕ = chunk - first in
    let whole : first + count ≡ chunk = omega (arith, le) in
    let next : suc count ≡ chunk + 1 - first = omega (arith, le) in
    more_is
    ∙ ap (λ (n : Additions). record n { added = n.added ++ digest ∷ [] }) is
    ∙ ap (λ d. record batch { added = leaves_from leaf first count ++ d ∷ [] }) (digest_is ∙ ap leaf (sym whole))
    ∙ ap (λ ds. record batch { added = ds }) (sym (leaves_from-more leaf first count) ∙ ap (leaves_from leaf first) next)

-- ---- leaves over places
pub leaves_over-append : (leaf : ℕ → List ℕ) (size count : ℕ) (xs ys : List ℕ)
    → leaves_over leaf size count (xs ++ ys) ≡ leaves_over leaf size count xs ++ leaves_over leaf size count ys
leaves_over-append leaf size count [] ys = refl
leaves_over-append leaf size count (x ∷ xs) ys = by (nat_lt (x / size) count) (leaves_over-append leaf size count xs ys)
  where
    by : (b : Bool) → leaves_over leaf size count (xs ++ ys) ≡ leaves_over leaf size count xs ++ leaves_over leaf size count ys
        → cond b ((x / size, leaf (x / size)) ∷ leaves_over leaf size count (xs ++ ys)) (leaves_over leaf size count (xs ++ ys))
        ≡ cond b ((x / size, leaf (x / size)) ∷ leaves_over leaf size count xs) (leaves_over leaf size count xs) ++ leaves_over leaf size count ys
    by true same = ap (λ rest. (x / size, leaf (x / size)) ∷ rest) same
    by false same = same

pub place_updated : (leaf : ℕ → List ℕ) (size count : ℕ) (batch now more : Additions) (front : List ℕ) (at chunk : ℕ) (digest : List ℕ)
    → now ≡ record batch { updates = leaves_over leaf size count front } → chunk ≡ at / size → chunk < count → digest ≡ leaf chunk
    → more ≡ record now { updates = now.updates ++ (chunk, digest) ∷ [] }
    → more ≡ record batch { updates = leaves_over leaf size count (front ++ at ∷ []) }
place_updated leaf size count batch now more front at chunk digest is chunk_is lt digest_is more_is =
    let one : leaves_over leaf size count (at ∷ []) ≡ (chunk, digest) ∷ [] =
    cond-true _ _ _ (lt-ltb (at / size) count (omega (arith, chunk_is, lt)))
    ∙ ap (λ k. (k, leaf k) ∷ []) (sym chunk_is) ∙ ap (λ d. (chunk, d) ∷ []) (sym digest_is) in
    more_is
    ∙ ap (λ (n : Additions). record n { updates = n.updates ++ (chunk, digest) ∷ [] }) is
    ∙ ap (λ us. record batch { updates = us }) (ap (λ one. leaves_over leaf size count front ++ one) (sym one)
    ∙ sym (leaves_over-append leaf size count front (at ∷ [])))

pub place_passed : (leaf : ℕ → List ℕ) (size count : ℕ) (batch now more : Additions) (front : List ℕ) (at chunk : ℕ)
    → now ≡ record batch { updates = leaves_over leaf size count front } → chunk ≡ at / size → count ≤ chunk → more ≡ now
    → more ≡ record batch { updates = leaves_over leaf size count (front ++ at ∷ []) }
place_passed leaf size count batch now more front at chunk is chunk_is le more_is =
    let none : leaves_over leaf size count (at ∷ []) ≡ [] = cond-false _ _ _ (le-ltb (at / size) count (omega (arith, chunk_is, le))) in
    more_is ∙ is
    ∙ ap (λ us. record batch { updates = us }) (sym (append-nil (leaves_over leaf size count front))
    ∙ ap (λ one. leaves_over leaf size count front ++ one) (sym none)
    ∙ sym (leaves_over-append leaf size count front (at ∷ [])))

pub all_at : (P : ℕ → Type 0) (numbers : List ℕ) (i : ℕ) → i < length numbers → AllByRecursion P numbers → P (get_or numbers i 0)
all_at P [] i lt all = absurd (omega (arith, lt))
all_at P (n ∷ numbers) zero lt all = all.0
all_at P (n ∷ numbers) (suc i) lt all = all_at P numbers i (omega (arith, lt)) all.1

pub replaced_none : (xs : List (List ℕ)) → replaced xs [] ≡ xs
replaced_none xs = refl

-- ---- what an answer that is there says
pub ok_leaves : {A E : Type 0} (leaves : A → ℕ) (r : Result A E) (before more count : ℕ) → more ≡ count
    → IfOk r (λ made. leaves made ≡ before + more) → IfOk r (λ made. leaves made ≡ before + count)
ok_leaves leaves (Ok made) before more count same is = is ∙ ap (λ k. before + k) same
ok_leaves leaves (Err e) before more count same is = tt

pub ok_nodes : {A E : Type 0} (nodes : A → Nodes) (r : Result A E) (node : NodeHash) (rule : Rule) (one other : List (List ℕ)) → one ≡ other
    → IfOk r (λ made. AreNodesOf node rule one (nodes made)) → IfOk r (λ made. AreNodesOf node rule other (nodes made))
ok_nodes nodes (Ok made) node rule one other same is = subst (λ ds. AreNodesOf node rule ds (nodes made)) same is
ok_nodes nodes (Err e) node rule one other same is = tt

pub ok_count : {A E : Type 0} (leaves : A → ℕ) (r : Result A E) (one other : ℕ) → one ≡ other → IfOk r (λ made. leaves made ≡ one)
    → IfOk r (λ made. leaves made ≡ other)
ok_count leaves (Ok made) one other same is = is ∙ same
ok_count leaves (Err e) one other same is = tt
