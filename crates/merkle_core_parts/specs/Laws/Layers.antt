-- What the layers of a batch know of a list is right, and which trees they make.
use Rattle.std.proofs.Common.{◌≡◌, ℕ, zero, suc, ◌+◌, ◌-◌, ◌<◌, ◌≤◌, ◌⊎◌, inl, inr, Bool, true, false, cond, eqb, ltb}
use Rattle.std.proofs.Common.{List, [], ◌∷◌}
use Rattle.std.proofs.Common.{Option, Some, None, ◌++◌, length, map, take, drop, get_or, refl, sym, ◌∙◌, ap, ap₂, subst}
use Rattle.std.proofs.Common.{arith}
use Rattle.std.proofs.lemmas.Bool.{cases_lt, cond-true, cond-false, lt-ltb, le-ltb}
use Rattle.std.specs.Prelude.{slice_get, IfSome, unwrap_or}
use Rattle.std.specs.Option.{option_or}
use Rattle.merkle_forest.specs.Forest.{Tree, position, Rule, forest_of}
use Rattle.merkle_forest.specs.Nodes.{IsNodeAt}
use Rattle.merkle_forest.specs.Perfect.{IsPairing}
use Rattle.merkle_core_parts.specs.Layers.{replacement_at, layer_at, known_above, AreLed, IsOfOne, IsFirstAt, IsWhole}
use Rattle.merkle_core_parts.specs.Layers.{AreStacked, bases, oldest_leaves, with_layers}
use Rattle.merkle_core_parts.specs.Mem.{Base, Layer, Nodes, NodeHash, Replacement, AreKeptNodes, node_count, node_at}
use Rattle.merkle_core_parts.specs.Mem.{tree_digest}
use Rattle.merkle_core_parts.specs.Mem.{AreNodesOf, value_after, with_layer, list_peaks, base_of}
use Rattle.merkle_core_parts.specs.Laws.Batches.{shape-with, led-nodes}
use Rattle.merkle_core_parts.specs.Laws.Held.{right-there}
use Rattle.merkle_core_parts.specs.Laws.Kept.{later}
use Rattle.merkle_core_parts.specs.Laws.Mem.{peaks-of}

pick : (o : Option (List ℕ)) (b : Bool) (d old : List ℕ)
    → unwrap_or o (cond b d old) ≡ unwrap_or (option_or o (cond b (Some d) None)) old
pick (Some x) b d old = refl
pick None true d old = refl
pick None false d old = refl

-- what replacements leave
pub after-replacement : (us : List Replacement) (index : ℕ) (old : List ℕ)
    → value_after us index old ≡ unwrap_or (replacement_at us index) old
after-replacement [] index old = refl
after-replacement (u ∷ us) index old =
    after-replacement us index (cond (eqb u.0 index) u.1 old) ∙ pick (replacement_at us index) (eqb u.0 index) u.1 old

or_again : (o p q : Option (List ℕ)) → option_or (option_or o p) q ≡ option_or o (option_or p q)
or_again None p q = refl
or_again (Some x) p q = refl

pub or_none : (o : Option (List ℕ)) → option_or o None ≡ o
or_none None = refl
or_none (Some x) = refl

-- one more replacement is asked first
pub replacement-more : (us : List Replacement) (u : Replacement) (index : ℕ)
    → replacement_at (us ++ u ∷ []) index ≡ option_or (cond (eqb u.0 index) (Some u.1) None) (replacement_at us index)
replacement-more [] u index = sym (or_none (cond (eqb u.0 index) (Some u.1) None))
replacement-more (v ∷ us) u index =
    ap (λ o. option_or o (cond (eqb v.0 index) (Some v.1) None)) (replacement-more us u index)
    ∙ or_again (cond (eqb u.0 index) (Some u.1) None) (replacement_at us index) (cond (eqb v.0 index) (Some v.1) None)

at_old : (o rest : Option (List ℕ)) (was now : List ℕ) → unwrap_or o was ≡ now
    → (was ≡ now → IfSome rest (λ d. d ≡ now)) → IfSome (option_or o rest) (λ d. d ≡ now)
at_old None rest was now same later = later same
at_old (Some d) rest was now same later = same

-- what is known of a node that a layer does not change, or which list of theirs a tree is of
abbrev KnowsOr : (rule : Rule) (node : NodeHash) (nodes : Nodes) (list : List (List ℕ))
    (lists : List (List (List ℕ))) (f : ℕ) (t : Tree)
    → Type 0
KnowsOr rule node nodes list lists f t =
    IfSome (node_at rule nodes (position t)) (λ d. d ≡ tree_digest node list f t) ⊎ IsOfOne node rule nodes lists

below_too : (rule : Rule) (node : NodeHash) (nodes : Nodes) (list before : List (List ℕ))
    (earlier : List (List (List ℕ)))
    (f : ℕ) (t : Tree) → IsNodeAt f t (forest_of rule (length list))
    → tree_digest node before f t ≡ tree_digest node list f t
    → KnowsOr rule node nodes list (list ∷ before ∷ earlier) f t → KnowsOr rule node nodes before (before ∷ earlier) f t
below_too rule node nodes list before earlier f t stands same (inl there) =
    inl (subst (λ v. IfSome (node_at rule nodes (position t)) (λ d. d ≡ v)) (sym same) there)
below_too rule node nodes list before earlier f t stands same (inr (inl are)) =
    inl (subst (λ v. IfSome (node_at rule nodes (position t)) (λ d. d ≡ v)) (sym same)
    (right-there node rule list nodes are f t stands))
below_too rule node nodes list before earlier f t stands same (inr (inr rest)) = inr rest

known_right : (rule : Rule) → IsPairing rule → (node : NodeHash) (layers : List Layer) (earlier : List (List (List ℕ)))
    (list : List (List ℕ)) (nodes : Nodes) (f : ℕ) (t : Tree) → AreLed node rule layers earlier list
    → KnowsOr rule node nodes list (list ∷ earlier) f t → IsNodeAt f t (forest_of rule (length list))
    → IfSome (known_above rule layers (node_at rule nodes) (position t)) (λ d. d ≡ tree_digest node list f t)
known_right rule pairs node [] [] list nodes f t led (inl there) stands = there
known_right rule pairs node [] [] list nodes f t led (inr (inl are)) stands =
    right-there node rule list nodes are f t stands
known_right rule pairs node [] [] list nodes f t led (inr (inr none)) stands = absurd none
known_right rule pairs node [] (before ∷ earlier) list nodes f t led over stands = absurd led
known_right rule pairs node (layer ∷ below) [] list nodes f t led over stands = absurd led
known_right rule pairs node (layer ∷ below) (before ∷ earlier) list nodes f t led over stands =
    let p = position t in
    let size = node_count rule layer.base.leaves in
    let is : size ≡ node_count rule (length before) = ap (node_count rule) led.0.from in
    let rest = known_above rule below (node_at rule nodes) p in
    let long : length before + (length list - length before) ≡ length list = omega (arith, led.0.longer) in
    elim (cases_lt p size) [
      | inl low ↦
          subst (λ o. IfSome (option_or o rest) (λ d. d ≡ tree_digest node list f t))
          (sym (cond-true (ltb p size) (replacement_at layer.changed p) (slice_get layer.digests (p - size))
          (lt-ltb p size low)))
          (elim (later rule pairs (length before) (length list - length before) f t
          (subst (λ n. IsNodeAt f t (forest_of rule n)) (sym long) stands)) [
            | inl old ↦
                at_old (replacement_at layer.changed p) rest (tree_digest node before f t) (tree_digest node list f t)
                (sym (after-replacement layer.changed p (tree_digest node before f t)) ∙ led.0.old f t old)
                (λ same. subst (λ v. IfSome rest (λ d. d ≡ v)) same
                (known_right rule pairs node below earlier before nodes f t led.1
                (below_too rule node nodes list before earlier f t stands same over) old))
            | inr past ↦ absurd (omega (arith, past, low, is))
          ])
      | inr past ↦
          subst (λ o. IfSome (option_or o rest) (λ d. d ≡ tree_digest node list f t))
          (sym (cond-false (ltb p size) (replacement_at layer.changed p) (slice_get layer.digests (p - size))
          (le-ltb p size past)
          ∙ ap (λ s. slice_get layer.digests (p - s)) is ∙ led.0.new f t stands (omega (arith, past, is))))
          refl
    ]

-- the digests that layers and a tree have, whatever list of theirs the tree is of, are those of the list that they lead
-- to
pub known-right : (rule : Rule) → IsPairing rule
    → (node : NodeHash) (layers : List Layer) (earlier : List (List (List ℕ)))
    (list : List (List ℕ)) (nodes : Nodes) → AreLed node rule layers earlier list
    → IsOfOne node rule nodes (list ∷ earlier)
    → (f : ℕ) (t : Tree) → IsNodeAt f t (forest_of rule (length list))
    → IfSome (known_above rule layers (node_at rule nodes) (position t)) (λ d. d ≡ tree_digest node list f t)
known-right rule pairs node layers earlier list nodes led over f t stands =
    known_right rule pairs node layers earlier list nodes f t led (inr over) stands

-- the first of the bases
pub first-own : (tree own : Base) (more : List Base) (index : ℕ) → own ≡ tree
    → IsFirstAt tree (own ∷ more) index → index ≡ 0
first-own tree own more zero is at = refl
first-own tree own more (suc k) is at = absurd (at.none_before 0 (omega arith) (ap (λ b. Some b) is))

-- the bases that layers know, wherever they are held
pub base-at : {A : Type 0} (xs : List A) (layer_of : A → Layer) (own : Base) (i : ℕ) (x d : A)
    → i < length xs → x ≡ get_or xs i d
    → slice_get (bases own (map layer_of xs)) (suc i) ≡ Some (layer_of x).base
base-at [] layer_of own i x d lt is = absurd (omega arith)
base-at (y ∷ xs) layer_of own zero x d lt is = ap (λ z. Some (layer_of z).base) (sym is)
base-at (y ∷ xs) layer_of own (suc i) x d lt is = base-at xs layer_of own i x d (omega arith) is

pub base-past : {A : Type 0} (xs : List A) (layer_of : A → Layer) (own : Base) (i : ℕ) → length xs < i
    → slice_get (bases own (map layer_of xs)) i ≡ None
base-past [] layer_of own zero lt = absurd (omega arith)
base-past [] layer_of own (suc i) lt = refl
base-past (y ∷ xs) layer_of own zero lt = absurd (omega arith)
base-past (y ∷ xs) layer_of own (suc i) lt = base-past xs layer_of (layer_of y).base i (omega arith)

-- how many leaves there are with these layers
abbrev pub leaves_with : ℕ → List Layer → ℕ
leaves_with oldest [] = oldest
leaves_with oldest (layer ∷ below) = layer.leaves

pub record IsOver (rule : Rule) (leaves oldest : ℕ) (all below : List Layer) (layer : Layer) : Type 0 where
  pub whole : IsWhole rule layer
  pub over : layer.base.leaves ≡ leaves_with oldest below
  pub under : layer.leaves ≤ leaves

pub over-first : (rule : Rule) (leaves : ℕ) (below : List Layer) → AreStacked rule leaves below
    → leaves ≡ leaves_with (oldest_leaves leaves below) below
over-first rule leaves [] stacked = refl
over-first rule leaves (layer ∷ below) stacked = sym stacked.0

-- each layer stands over those after it
pub stacked-at : {A : Type 0} (rule : Rule) (xs : List A) (layer_of : A → Layer) (leaves : ℕ) (i : ℕ) (x d : A)
    → i < length xs
    → x ≡ get_or xs i d → AreStacked rule leaves (map layer_of xs)
    → IsOver rule leaves (oldest_leaves leaves (map layer_of xs)) (map layer_of xs)
    (drop (suc i) (map layer_of xs)) (layer_of x)
stacked-at rule [] layer_of leaves i x d lt is stacked = absurd (omega arith)
stacked-at {A} rule (y ∷ xs) layer_of leaves zero x d lt is stacked =
    let own : IsOver rule leaves (oldest_leaves leaves (map layer_of (y ∷ xs))) (map layer_of (y ∷ xs))
    (map layer_of xs) (layer_of y) =
    record {
      whole = stacked.1;
      over = over-first rule (layer_of y).base.leaves (map layer_of xs) stacked.2;
      under = omega (arith, stacked.0);
    } in
    subst (λ (z : A). IsOver rule leaves (oldest_leaves leaves (map layer_of (y ∷ xs))) (map layer_of (y ∷ xs))
    (map layer_of xs) (layer_of z))
    (sym is) own
stacked-at rule (y ∷ xs) layer_of leaves (suc i) x d lt is stacked =
    let rest = stacked-at rule xs layer_of (layer_of y).base.leaves i x d (omega arith) is stacked.2 in
    record {
      whole = rest.whole;
      over = rest.over;
      under = omega (arith, rest.under, stacked.0, stacked.1.grown);
    }

-- and comes right before them
pub drop-at : {A : Type 0} (xs : List A) (layer_of : A → Layer) (i : ℕ) (x d : A) → i < length xs → x ≡ get_or xs i d
    → drop i (map layer_of xs) ≡ layer_of x ∷ drop (suc i) (map layer_of xs)
drop-at [] layer_of i x d lt is = absurd (omega arith)
drop-at (y ∷ xs) layer_of zero x d lt is = ap (λ z. layer_of z ∷ map layer_of xs) (sym is)
drop-at (y ∷ xs) layer_of (suc i) x d lt is = drop-at xs layer_of i x d (omega arith) is

pub drop-all : {A : Type 0} (xs : List A) (layer_of : A → Layer) → drop (length xs) (map layer_of xs) ≡ []
drop-all [] layer_of = refl
drop-all (y ∷ xs) layer_of = drop-all xs layer_of

-- the oldest base has no more leaves than the newest layer
pub oldest-least : (rule : Rule) (leaves : ℕ) (layers : List Layer) → AreStacked rule leaves layers
    → oldest_leaves leaves layers ≤ leaves
oldest-least rule leaves [] stacked = omega arith
oldest-least rule leaves (layer ∷ below) stacked =
    omega (arith, oldest-least rule layer.base.leaves below stacked.2, stacked.1.grown, stacked.0)

-- layers leave the boundary
pub layers-boundary : (rule : Rule) (nodes : Nodes) (layers : List Layer)
    → (with_layers rule nodes layers).boundary ≡ nodes.boundary
layers-boundary rule nodes [] = refl
layers-boundary rule nodes (layer ∷ below) = layers-boundary rule nodes below

-- the newest of them are stacked too
pub stacked-take : (rule : Rule) (leaves : ℕ) (layers : List Layer) (count : ℕ) → AreStacked rule leaves layers
    → AreStacked rule leaves (take count layers)
stacked-take rule leaves layers zero stacked = tt
stacked-take rule leaves [] (suc k) stacked = tt
stacked-take rule leaves (layer ∷ below) (suc k) stacked =
    (stacked.0, stacked.1, stacked-take rule layer.base.leaves below k stacked.2)

-- where a tree is a base, the layers that follow it begin with its leaves
pub leaves-at : (tree own : Base) (layers : List Layer) (count : ℕ) → slice_get (bases own layers) count ≡ Some tree
    → oldest_leaves own.leaves (take count layers) ≡ tree.leaves
leaves-at tree own layers zero is = let same : own ≡ tree = cc is in ap (λ (b : Base). b.leaves) same
leaves-at tree own [] (suc k) is = absurd cc
leaves-at tree own (layer ∷ below) (suc k) is = leaves-at tree layer.base below k is

pub record AreGrown (rule : Rule) (count : ℕ) (nodes : Nodes) : Type 0 where
  pub shape : AreKeptNodes rule nodes
  pub leaves : nodes.leaves ≡ count

-- the shape of a tree with layers
pub shape-layers : (rule : Rule) (nodes : Nodes) (leaves : ℕ) (layers : List Layer) → AreKeptNodes rule nodes
    → AreStacked rule leaves layers → nodes.leaves ≡ oldest_leaves leaves layers
    → AreGrown rule leaves (with_layers rule nodes layers)
shape-layers rule nodes leaves [] shape stacked is = record { shape = shape; leaves = is }
shape-layers rule nodes leaves (layer ∷ below) shape stacked is =
    let it = shape-layers rule nodes layer.base.leaves below shape stacked.2 is in
    record {
      shape = shape-with rule (with_layers rule nodes below) layer it.shape (omega (arith, it.leaves, stacked.1.grown))
          (ap (λ n. node_count rule n + length layer.digests) it.leaves ∙ stacked.1.counted);
      leaves = stacked.0;
    }

-- what a tree has become that has a layer's nodes over those of others
pub put-over : (rule : Rule) (nodes : Nodes) (layers : List Layer) (own : Layer) (n : ℕ) (pinned : List Replacement)
    (digests : List (List ℕ)) → n ≡ own.leaves → pinned ≡ (with_layer rule (with_layers rule nodes layers) own).pinned
    → digests ≡ (with_layer rule (with_layers rule nodes layers) own).digests
    → ◌≡◌ {A = Nodes} (record { leaves = n; boundary = nodes.boundary; pinned = pinned; digests = digests })
    (with_layer rule (with_layers rule nodes layers) own)
put-over rule nodes layers own n pinned digests is_n is_pinned is_digests =
    let after = with_layer rule (with_layers rule nodes layers) own in
    ap₂ (λ (k : ℕ) (ds : List (List ℕ)). record {
      leaves = k;
      boundary = nodes.boundary;
      pinned = pinned;
      digests = ds;
    }) is_n is_digests
    ∙ ap₂ (λ (b : ℕ) (ps : List Replacement). record {
      leaves = own.leaves;
      boundary = b;
      pinned = ps;
      digests = after.digests;
    }) (sym (layers-boundary rule nodes layers)) is_pinned

-- the layers that follow a tree of one of their lists make of it a tree of the list that they lead to
pub layers-nodes : (rule : Rule) → IsPairing rule
    → (node : NodeHash) (layers : List Layer) (earlier : List (List (List ℕ)))
    (list stage : List (List ℕ)) (count : ℕ) (nodes : Nodes) → AreLed node rule layers earlier list
    → slice_get (list ∷ earlier) count ≡ Some stage → AreNodesOf node rule stage nodes
    → AreNodesOf node rule list (with_layers rule nodes (take count layers))
layers-nodes rule pairs node layers earlier list stage zero nodes led is are =
    let same : list ≡ stage = cc is in
    subst (λ (l : List (List ℕ)). AreNodesOf node rule l nodes) (sym same) are
layers-nodes rule pairs node [] [] list stage (suc k) nodes led is are = absurd cc
layers-nodes rule pairs node [] (before ∷ earlier) list stage (suc k) nodes led is are = absurd led
layers-nodes rule pairs node (layer ∷ below) [] list stage (suc k) nodes led is are = absurd led
layers-nodes rule pairs node (layer ∷ below) (before ∷ earlier) list stage (suc k) nodes led is are =
    led-nodes rule pairs node layer before list (with_layers rule nodes (take k below)) led.0
    (layers-nodes rule pairs node below earlier before stage k nodes led.1 is are)

-- what is known above depends on what is known below at that position alone
known_same : (rule : Rule) (layers : List Layer) (one other : ℕ → Option (List ℕ)) (p : ℕ) → one p ≡ other p
    → known_above rule layers one p ≡ known_above rule layers other p
known_same rule [] one other p same = same
known_same rule (layer ∷ below) one other p same =
    ap (option_or (layer_at rule layer p)) (known_same rule below one other p same)

nothing : (rule : Rule) (p : ℕ)
    → node_at rule (record { leaves = 0; boundary = 0; pinned = []; digests = [] }) p ≡ None
nothing rule p = none (ltb p (node_count rule 0)) (p - node_count rule 0)
  where
    none : (b : Bool) (k : ℕ) → ◌≡◌ {A = Option (List ℕ)} (cond b None (slice_get [] k)) None
    none true k = refl
    none false zero = refl
    none false (suc k) = refl

-- so what layers know by themselves is right as well
pub layers-right : (rule : Rule) → IsPairing rule
    → (node : NodeHash) (layers : List Layer) (earlier : List (List (List ℕ)))
    (list : List (List ℕ)) (f : ℕ) (t : Tree) (digest : List ℕ) → AreLed node rule layers earlier list
    → IsNodeAt f t (forest_of rule (length list)) → known_above rule layers (λ p. None) (position t) ≡ Some digest
    → digest ≡ tree_digest node list f t
layers-right rule pairs node layers earlier list f t digest led stands is =
    let empty : Nodes = record { leaves = 0; boundary = 0; pinned = []; digests = [] } in
    let there : known_above rule layers (node_at rule empty) (position t) ≡ Some digest =
    known_same rule layers (node_at rule empty) (λ p. None) (position t) (nothing rule (position t)) ∙ is in
    subst (λ o. IfSome o (λ d. d ≡ tree_digest node list f t)) there
    (known_right rule pairs node layers earlier list empty f t led
    (inl (subst (λ o. IfSome o (λ d. d ≡ tree_digest node list f t)) (sym (nothing rule (position t))) tt)) stands)

-- a tree of a list is the base that is told by the list's length and its peaks
pub base-is : (rule : Rule) → IsPairing rule → (node : NodeHash) (list : List (List ℕ)) (nodes : Nodes) (base : Base)
    → AreNodesOf node rule list nodes → base.leaves ≡ length list → base.peaks ≡ list_peaks node rule list
    → base_of rule nodes ≡ base
base-is rule pairs node list nodes base are leaves peaks =
    ap₂ (λ (n : ℕ) (ps : List (List ℕ)). record { leaves = n; peaks = ps }) (are.counted ∙ sym leaves)
    (peaks-of rule pairs node list nodes are ∙ sym peaks)
