use Rattle.std.proofs.Common.{◌≡◌, ◌≤◌, ◌+◌, ◌++◌, [], ℕ, List, Some}
use Rattle.std.proofs.Common.{length, map, refl, sym, ◌∙◌, ap, ap₂, subst, arith, length-append}
use Rattle.std.proofs.lemmas.List.{length-map}
use Rattle.std.proofs.lemmas.Result.{err_from_is_err_and}
use Rattle.std.specs.Prelude.{slice_get, option_map, IfErr, IfSome}
use Rattle.std.specs.List.{AllByRecursion}
use Rattle.merkle_forest.specs.Forest.{Tree, leaf, leaf_count, position, forest_of}
use Rattle.merkle_forest.specs.Nodes.{IsNodeAt}
use Rattle.merkle_forest.specs.Laws.ForestGrowth.{size-mono}
use Rattle.merkle_core_parts.specs.Errors.{IsRefusalOver}
use Rattle.merkle_core_parts.specs.Layers.{Layered, AreStacked, IsLed, known_at, oldest_leaves}
use Rattle.merkle_core_parts.specs.Mem.{Nodes, Additions, Layer, AreKeptNodes, encoded, node_count, tree_digest, with_leaves, digests_from}
use Rattle.merkle_core_parts.specs.Mem.{known_over, value_after, list_peaks, Replacement}
use Rattle.merkle_core_parts.specs.declared.error.Error.TheVariants.{Memory}
use Rattle.merkle_core_parts.specs.Laws.Enough.{IsRefusalOfKept, only-memory}
use Rattle.merkle_core_parts.specs.Laws.Layers.{known-right}
use Rattle.merkle_core_parts.specs.Laws.Made.{AreMade, HavePeaks, IsHashed}
use Rattle.merkle_core_parts.specs.Laws.Replaced.{AreFrom, length-replaced}
use Rattle.merkle_core_parts.specs.Laws.Rebuilt.{ArePending, Digests, IsRight}
use Rattle.merkle_core_parts.specs.Laws.Updated.{AreRebuilt}
use Rattle.merkle_core_parts.specs.Laws.Merkleized.{pending-of, right-none, new-leaf, base-made, rebuilt-same, led-of, made-peaks}
use Rattle.merkle_memory.specs.Laws.Begun.{from-zero, setting-from}
use Rattle.merkle_memory.proofs.batch.UnmerkleizedBatch.merkleize.Goals as goal

pub returns-clause-of_begun : goal.returns-clause-of_begun
returns-clause-of_begun g c boundary node list earlier alike changes over =
    let encoding = g.D.Write.encoding in
    let rule = g.F.Family.merge_rule in
    let pairs = g.met.F.Family.merges_equals in
    let other = g.H.Hasher.node_of c.args.hasher.now in
    let n = c.self.inside.base_leaves in
    let batch : Additions = record {
      base = record { leaves = n; peaks = map encoding c.self.inside.base_peaks.items };
      boundary = c.self.inside.boundary;
      added = map encoding c.self.inside.added.items;
      updates = encoded encoding c.self.inside.updates.items;
      below = map (λ layer. layer.value) c.self.inside.below.items;
      dropped = c.self.inside.dropped;
    } in
    let is_batch : batch ≡ c.args.self = c.self.view_is in
    let layer : Layer = record {
      base = record { leaves = n; peaks = map encoding c.self.inside.base_peaks.items };
      leaves = c.as_u64-leaves.result;
      digests = map encoding c.push_leaves.new.added.items;
      changed = encoded encoding c.sort_updates-2.new.updates.items;
    } in
    let before : Digests = tree_digest node list in
    let after : Digests = tree_digest node (with_leaves list batch) in
    let is : n ≡ length list = ap (λ (b : Additions). b.base.leaves) is_batch ∙ over.counted in
    let sized : c.as_u64-base_size.result ≡ node_count rule n =
    c.as_u64-base_size.ensures ∙ c.location_to_position.ensures ∙ ap (node_count rule) c.new.ensures in
    let sorted = encoded encoding c.deref-3.result.now in
    let sorted_is : c.deref-3.result.now ≡ c.sort_updates.new.updates.items = c.deref-3.ensures.value in
    let order : AreFrom 0 sorted =
    subst (λ us. AreFrom 0 (encoded encoding us)) (sym sorted_is) c.in_ok-sort_updates.ensures.order in
    let stable : (k : ℕ) (old : List ℕ) → value_after batch.updates k old ≡ value_after sorted k old =
    λ k old. c.in_ok-sort_updates.ensures.same k old
    ∙ ap (λ us. value_after (encoded encoding us) k old) (sym sorted_is) in
    let known : Layered = record { tree = c.args.base.now; layers = c.args.self.below; dropped = c.args.self.dropped } in
    let known_is : c.new-known.result ≡ known =
    c.new-known.ensures
    ∙ ap (λ layers. record {
      tree = c.args.base.now;
      layers = map (λ layer. layer.value) layers;
      dropped = c.self.inside.dropped;
    }) c.deref-2.ensures.value
    ∙ ap (λ (b : Additions). record { tree = c.args.base.now; layers = b.below; dropped = b.dropped }) is_batch in
    let setting = setting-from rule node other list (with_leaves list batch) (known_at rule c.new-known.result) n boundary
    is alike
    (subst (λ (k : Layered). (f : ℕ) (t : Tree) → IsNodeAt f t (forest_of rule (length list))
    → IfSome (known_at rule k (position t)) (λ d. d ≡ tree_digest node list f t)) (sym known_is)
    (known-right rule pairs node c.args.self.below earlier list c.args.base.now over.led over.tree)) in
    let within : boundary ≤ n = omega (arith, changes.0, ap (λ (b : Additions). b.base.leaves) is_batch) in
    let late : AllByRecursion (λ (one : Replacement). boundary ≤ one.0) batch.updates =
    subst (λ (b : Additions). AllByRecursion (λ (one : Replacement). boundary ≤ one.0) b.updates) (sym is_batch) changes.1 in
    let bound : AreFrom boundary sorted =
    subst (λ us. AreFrom boundary (encoded encoding us)) (sym sorted_is) (c.in_ok-sort_updates.ensures.bound boundary late) in
    let from_first = pending-of rule pairs node list batch sorted n is order stable in
    let pending : ArePending rule n boundary before after 0 sorted =
    record { order = from_first.order; bound = bound; each = from_first.each } in
    let peaks = encoded encoding c.in_ok-rebuilt.rebuilt.items in
    let no_changes : c.new-changed.result.items ≡ [] = c.new-changed.ensures.items in
    let right : IsRight rule n after (encoded encoding c.new-changed.result.items) =
    subst (λ us. IsRight rule n after (encoded encoding us)) (sym no_changes)
    (right-none rule node (with_leaves list batch) n) in
    let made_anew = encoded encoding c.rebuild_peaks.new.changed.items in
    let rebuilt : AreRebuilt rule n before after [] layer.changed peaks =
    rebuilt-same rule n before after [] made_anew layer.changed peaks c.in_ok-sort_updates-2.ensures.same
    (subst (λ us. AreRebuilt rule n before after (encoded encoding us) made_anew peaks) no_changes
    (c.in_ok-rebuilt.ensures.rebuilt boundary before after setting pending right)) in
    let have : HavePeaks rule n peaks = c.in_ok-rebuilt.ensures.peaks in
    let peaks_is : c.deref-4.result.now ≡ c.in_ok-rebuilt.rebuilt.items = c.deref-4.ensures.value in
    let added_is : c.deref-5.result.now ≡ c.put_all.new.digests.items = c.deref-5.ensures.value in
    let nothing : c.new-digests.result.items ≡ [] = c.new-digests.ensures.items in
    let base_size = c.as_u64-base_size.result in
    let added = map encoding c.put_all.new.digests.items in
    let updates_is : c.deref.result.now ≡ c.self.inside.updates.items = c.deref.ensures.value in
    let each : (k : ℕ) → slice_get added k ≡ option_map (value_after batch.updates (n + k)) (slice_get batch.added k) =
    λ k. c.put_all.ensures.each k
    ∙ ap (λ us. option_map (value_after (encoded encoding us) (n + k)) (slice_get batch.added k)) updates_is in
    let count : length c.deref-5.result.now ≡ length batch.added =
    ap length added_is ∙ c.put_all.ensures.counted ∙ sym (length-map c.self.inside.added.items encoding) in
    let leaf_at : (k : ℕ) (d : List ℕ) → slice_get (map encoding c.deref-5.result.now) k ≡ Some d
    → after (n + k) (leaf (node_count rule (n + k))) ≡ d =
    λ k d there. new-leaf node list batch added n is each k d (node_count rule (n + k))
    (ap (λ xs. slice_get (map encoding xs) k) (sym added_is) ∙ there) in
    let start : AreMade rule after n n (node_count rule n)
    (known_over base_size (encoded encoding c.deref-4.result.now) (map encoding c.new-digests.result.items)) =
    subst (λ xs. AreMade rule after n n (node_count rule n)
    (known_over base_size (encoded encoding c.deref-4.result.now) (map encoding xs))) (sym nothing)
    (subst (λ ps. AreMade rule after n n (node_count rule n) (known_over base_size (encoded encoding ps) []))
    (sym peaks_is)
    (base-made rule pairs node before after n base_size [] layer.changed peaks sized have rebuilt)) in
    let hashed : IsHashed rule other n after =
    λ f p l r past. alike p (after f l) (after (f + leaf_count l) r)
    (omega (arith, past, size-mono rule pairs boundary n within)) in
    let pushed = c.in_ok-push_leaves.ensures.made after hashed leaf_at start in
    let made : AreMade rule after n (n + length batch.added) (node_count rule (n + length batch.added))
    (known_over base_size peaks layer.digests) =
    subst (λ k. AreMade rule after n (n + k) (node_count rule (n + k)) (known_over base_size peaks layer.digests)) count
    (subst (λ ps. AreMade rule after n (n + length c.deref-5.result.now)
    (node_count rule (n + length c.deref-5.result.now)) (known_over base_size (encoded encoding ps) layer.digests))
    peaks_is pushed) in
    let counted : base_size + length layer.digests ≡ node_count rule (n + length batch.added) =
    ap (λ k. base_size + k) (length-map c.push_leaves.new.added.items encoding)
    ∙ c.in_ok-push_leaves.ensures.counted ∙ ap (λ k. node_count rule (n + k)) count in
    let leaves : layer.leaves ≡ n + length batch.added =
    c.as_u64-leaves.ensures ∙ c.leaves.ensures.leaves
    ∙ ap (λ (b : Additions). b.base.leaves + length b.added) (sym is_batch) in
    let long : n + length batch.added ≡ length (with_leaves list batch) =
    sym (length-replaced (list ++ batch.added) batch.updates ∙ length-append list batch.added
    ∙ ap (λ k. k + length batch.added) (sym is)) in
    let top : map encoding c.in_ok-peaks.peaks.items ≡ list_peaks node rule (with_leaves list batch) =
    c.in_ok-peaks.ensures
    ∙ ap₂ (λ ps ds. digests_from rule c.as_u64-leaves.result
    (known_over base_size (encoded encoding ps) (map encoding ds)) 0) c.deref-6.ensures.value c.deref-7.ensures.value
    ∙ ap (λ m. digests_from rule m (known_over base_size peaks layer.digests) 0) leaves
    ∙ made-peaks rule pairs node (with_leaves list batch) n (n + length batch.added) (known_over base_size peaks layer.digests)
    (omega arith) long made in
    let made_layer : c.in_ok-new.field-0.value ≡ layer = c.in_ok-new.ensures.ok ∙ c.new-layer.ensures in (
      subst (λ (b : Additions). IsLed node rule c.in_ok-new.field-0.value list (with_leaves list b)) is_batch
          (subst (λ (l : Layer). IsLed node rule l list (with_leaves list batch)) (sym made_layer)
          (led-of rule pairs node list batch layer n base_size peaks is sized rebuilt made counted refl leaves)),
      top ∙ ap (λ (b : Additions). list_peaks node rule (with_leaves list b)) is_batch,
    )

pub returns-clause-of_list : goal.returns-clause-of_list
returns-clause-of_list g c list earlier same led over =
    returns-clause-of_begun g c 0 (g.H.Hasher.node_of c.args.hasher.now) list earlier (λ p left right past. refl)
    (omega arith, from-zero c.args.self.updates) (record { counted = same; led = led; tree = over })

pub returns-in_err-rebuilt-clause-refused : goal.returns-in_err-rebuilt-clause-refused
returns-in_err-rebuilt-clause-refused g c =
    let rule = g.F.Family.merge_rule in
    let needed = node_count rule c.args.self.base.leaves in
    let known : Layered = record { tree = c.args.base.now; layers = c.args.self.below; dropped = c.args.self.dropped } in
    let known_is : c.new-known.result ≡ known =
    c.new-known.ensures
    ∙ ap (λ layers. record {
      tree = c.args.base.now;
      layers = map (λ layer. layer.value) layers;
      dropped = c.self.inside.dropped;
    }) c.deref-2.ensures.value
    ∙ ap (λ (b : Additions). record { tree = c.args.base.now; layers = b.below; dropped = b.dropped }) c.self.view_is in
    let p = err_from_is_err_and c.from_residual-in_err-rebuilt.result c.from_residual-in_err-rebuilt.ensures.1 in
    subst (λ r. IfErr r (λ e. IsRefusalOver rule needed known e)) (sym p.1)
    (subst (λ e. IsRefusalOver rule needed known e) (sym p.2)
    (subst (λ (k : Layered). IsRefusalOver rule needed k c.in_err-rebuilt.field-0.0) known_is
    (subst (λ n. IsRefusalOver rule (node_count rule n) c.new-known.result c.in_err-rebuilt.field-0.0)
    (ap (λ (b : Additions). b.base.leaves) c.self.view_is) c.in_err-rebuilt.ensures.refused)))

pub returns-in_err-rebuilt-clause-enough : goal.returns-in_err-rebuilt-clause-enough
returns-in_err-rebuilt-clause-enough g c oldest newest shape late =
    let encoding = g.D.Write.encoding in
    let rule = g.F.Family.merge_rule in
    let base : Nodes = c.args.base.now in
    let n = c.self.inside.base_leaves in
    let layers = map (λ layer. layer.value) c.self.inside.below.items in
    let tree_is : c.new-known.result.tree ≡ base = ap (λ (k : Layered). k.tree) c.new-known.ensures in
    let layers_are : c.new-known.result.layers ≡ layers =
    ap (λ (k : Layered). k.layers) c.new-known.ensures ∙ ap (map (λ layer. layer.value)) c.deref-2.ensures.value in
    let is : n ≡ c.args.self.base.leaves = ap (λ (b : Additions). b.base.leaves) c.self.view_is in
    let within : base.boundary ≤ n = omega (arith, shape.within, newest, is) in
    let updates : encoded encoding c.self.inside.updates.items ≡ c.args.self.updates =
    ap (λ (b : Additions). b.updates) c.self.view_is in
    let late_here : AllByRecursion (λ (one : Replacement). base.boundary ≤ one.0)
    (encoded encoding c.self.inside.updates.items) =
    subst (AllByRecursion (λ (one : Replacement). base.boundary ≤ one.0)) (sym updates) late in
    let sorted : AreFrom base.boundary (encoded encoding c.deref-3.result.now) =
    subst (λ us. AreFrom base.boundary (encoded encoding us)) (sym c.deref-3.ensures.value)
    (c.in_ok-sort_updates.ensures.bound base.boundary late_here) in
    let oldest_here : oldest_leaves n c.new-known.result.layers ≡ oldest_leaves c.args.self.base.leaves c.args.self.below =
    ap (oldest_leaves n) layers_are ∙ ap (λ (b : Additions). oldest_leaves b.base.leaves b.below) c.self.view_is in
    let p = err_from_is_err_and c.from_residual-in_err-rebuilt.result c.from_residual-in_err-rebuilt.ensures.1 in
    subst (λ r. IfErr r (λ e. e ≡ Memory)) (sym p.1)
    (p.2 ∙ only-memory rule g.met.F.Family.merges_equals c.new-known.result n c.in_err-rebuilt.field-0.0
    (subst (AreKeptNodes rule) (sym tree_is) shape)
    (subst (AreStacked rule n) (sym layers_are) c.self.invariant.1)
    (omega (arith, oldest, oldest_here, ap (λ (t : Nodes). t.leaves) tree_is))
    c.in_err-rebuilt.ensures.refused
    (subst (λ (t : Nodes). IsRefusalOfKept rule t.boundary c.in_err-rebuilt.field-0.0) (sym tree_is)
    (c.in_err-rebuilt.ensures.kept base.boundary within sorted)))
