-- A file that is grown before bytes are laid over it.
use Rattle.std.proofs.Common.{◌≡◌, ◌≤◌, ◌+◌, ◌-◌, ◌++◌, ℕ, List, length}
use Rattle.std.proofs.Common.{take, drop, replicate, get_or, inl, inr, ap, sym, refl, ◌∙◌, arith}
use Rattle.std.proofs.lemmas.Bool.{cases_lt}
use Rattle.std.proofs.lemmas.List.{
  append-nil,
  length-append,
  length-replicate,
  length-take-le,
  get_or_append_left,
  get_or-append_right,
  get_or_past,
  get_or-take,
  drop_all,
  ext_get_or,
}
use Rattle.fault_storage_parts.specs.Files.{grown, with_bytes}
use Rattle.fault_storage_parts.proofs.Torn.{zeros-at}

grown-at : (size : ℕ) (file : List ℕ) (i : ℕ) → get_or (grown size file) i 0 ≡ get_or file i 0
grown-at size file i = elim (cases_lt i (length file)) [
  | inl lt ↦ get_or_append_left file (replicate (size - length file) 0) 0 i lt
  | inr past ↦ get_or-append_right file (replicate (size - length file) 0) (length file) i 0 refl past ∙ zeros-at (size - length file) (i - length file)
      ∙ sym (get_or_past file i 0 past)
]

pub length-grown : (size : ℕ) (file : List ℕ) → length (grown size file) ≡ length file + (size - length file)
length-grown size file = length-append file (replicate (size - length file) 0)
    ∙ ap (λ n. length file + n) (length-replicate {A = ℕ} (size - length file) 0)

front : (offset end : ℕ) (file : List ℕ) → offset ≤ end → take offset (grown end file) ≡ take offset (grown offset file)
front offset end file le =
    let far : length (take offset (grown end file)) ≡ offset = length-take-le offset (grown end file) (omega (arith, length-grown end file, le)) in
    let near : length (take offset (grown offset file)) ≡ offset = length-take-le offset (grown offset file) (omega (arith, length-grown offset file)) in
    ext_get_or 0 (take offset (grown end file)) (take offset (grown offset file)) (far ∙ sym near)
    (λ i lt. get_or-take offset (grown end file) i 0 (omega (arith, far, lt)) ∙ grown-at end file i
    ∙ sym (get_or-take offset (grown offset file) i 0 (omega (arith, far, lt)) ∙ grown-at offset file i))

back : (end : ℕ) (file : List ℕ) → drop end (grown end file) ≡ drop end file
back end file = elim (cases_lt end (length file)) [
  | inl lt ↦
      let none : end - length file ≡ 0 = omega (arith, lt) in
      ap (λ n. drop end (file ++ replicate n 0)) none ∙ ap (drop end) (append-nil file)
  | inr le ↦ drop_all end (grown end file) (omega (arith, length-grown end file, le)) ∙ sym (drop_all end file le)
]

pub laid-over : (offset : ℕ) (bytes file : List ℕ) → take offset (grown (offset + length bytes) file) ++
    (bytes ++ drop (offset + length bytes) (grown (offset + length bytes) file))
    ≡ with_bytes offset bytes file
laid-over offset bytes file =
    ap (λ l. l ++ (bytes ++ drop (offset + length bytes) (grown (offset + length bytes) file))) (front offset (offset + length bytes) file (omega arith))
    ∙ ap (λ l. take offset (grown offset file) ++ (bytes ++ l)) (back (offset + length bytes) file)
