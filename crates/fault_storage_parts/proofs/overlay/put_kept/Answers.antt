use Rattle.std.proofs.Common.{
  ◌≡◌,
  ◌<◌,
  ◌≤◌,
  ◌∙◌,
  ◌+◌,
  ◌∷◌,
  ◌⊎◌,
  inl,
  inr,
  [],
  ℕ,
  Bool,
  true,
  false,
  cond,
  List,
  length,
  min,
  drop,
  get_or,
  drop-cons,
  add-one,
  suc,
  refl,
  ap,
  sym,
  arith,
}
use Rattle.std.proofs.lemmas.Bool.{cases_lt}
use Rattle.std.proofs.lemmas.List.{drop_all}
use Rattle.fault_storage_parts.specs.Files.{with_bytes, with_kept}
use Rattle.fault_storage_parts.proofs.overlay.put_kept.Goals as goal

step : (offset byte : ℕ) (bytes : List ℕ) (keep : Bool) (kept : List Bool) (file : List ℕ)
    → with_kept offset (byte ∷ bytes) (keep ∷ kept) file ≡ with_kept (offset + 1) bytes kept (cond keep (with_bytes offset (byte ∷ []) file) file)
step offset byte bytes true kept file = refl
step offset byte bytes false kept file = refl

one_more : (offset i : ℕ) (bytes : List ℕ) (kept : List Bool) (file next : List ℕ) → i < length bytes → i < length kept
    → next ≡ cond (get_or kept i false) (with_bytes (offset + i) (get_or bytes i 0 ∷ []) file) file
    → with_kept (offset + (i + 1)) (drop (i + 1) bytes) (drop (i + 1) kept) next ≡ with_kept (offset + i) (drop i bytes) (drop i kept) file
one_more offset i bytes kept file next at there is =
    let heads : with_kept (offset + i) (drop i bytes) (drop i kept) file
    ≡ with_kept (offset + i) (get_or bytes i 0 ∷ drop (i + 1) bytes) (get_or kept i false ∷ drop (i + 1) kept) file =
    ap (λ bs. with_kept (offset + i) bs (drop i kept) file) (drop-cons bytes i 0 at)
    ∙ ap (λ ks. with_kept (offset + i) (get_or bytes i 0 ∷ drop (suc i) bytes) ks file) (drop-cons kept i false there)
    ∙ rw add-one refl in
    sym (heads ∙ step (offset + i) (get_or bytes i 0) (drop (i + 1) bytes) (get_or kept i false) (drop (i + 1) kept) file
    ∙ ap
    (λ o. with_kept o (drop (i + 1) bytes) (drop (i + 1) kept) (cond (get_or kept i false) (with_bytes (offset + i) (get_or bytes i 0 ∷ []) file) file))
    (omega arith)
    ∙ ap (with_kept (offset + (i + 1)) (drop (i + 1) bytes) (drop (i + 1) kept)) (sym is))

-- no byte is left, or no word on one
ends : (offset i : ℕ) (bytes : List ℕ) (kept : List Bool) (file : List ℕ) → min (length bytes) (length kept) ≤ i
    → with_kept (offset + i) (drop i bytes) (drop i kept) file ≡ file
ends offset i bytes kept file le =
    elim (either (length bytes) (length kept) i le) [
      | inl all ↦ ap (λ bs. with_kept (offset + i) bs (drop i kept) file) (drop_all i bytes all)
      | inr all ↦ ap (λ ks. with_kept (offset + i) (drop i bytes) ks file) (drop_all i kept all) ∙ none (drop i bytes)
    ]
  where
    either : (a b i : ℕ) → min a b ≤ i → (a ≤ i) ⊎ (b ≤ i)
    either a b i le = elim (cases_lt i a) [ inl lt ↦ inr (omega arith) | inr ge ↦ inl ge ]

    none : (bs : List ℕ) → with_kept (offset + i) bs [] file ≡ file
    none [] = refl
    none (b ∷ bs) = refl

pub loop-index-preserved : goal.loop-index-preserved
loop-index-preserved c = record {
  put = one_more c.args.offset c.loop-index.index c.args.bytes.now c.args.kept.now c.loop-index.file.items c.put_if.new.file.items (omega arith)
      (omega arith) c.put_if.ensures.put
      ∙ c.loop-index.invariant.put;
  capacity = omega arith;
}

pub returns-clause-put : goal.returns-clause-put
returns-clause-put c = sym (ends c.args.offset c.loop-index.index c.args.bytes.now c.args.kept.now c.loop-index.file.items (omega arith))
    ∙ c.loop-index.invariant.put
