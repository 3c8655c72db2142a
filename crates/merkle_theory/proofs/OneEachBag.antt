-- One string a site, in plain peaks that are bagged.
use Rattle.std.proofs.Common.{◌≡◌, ◌⊎◌, inl, inr, ⊎_elim, ℕ, zero, suc, ◌+◌, ◌<◌}
use Rattle.std.proofs.Common.{◌≤◌, List, [], ◌∷◌, ◌++◌, length, Contains, sym, ◌∙◌, ap, subst, arith}
use Rattle.std.proofs.lemmas.List.Elements.{Contains-append_cases}
use Rattle.merkle_forest.specs.Hashing.{Hash}
use Rattle.merkle_forest.specs.Trees.{Located}
use Rattle.merkle_forest.specs.Made.{Site, at_plain, at_fold, Made, bytes, both, hashed, value, strings}
use Rattle.merkle_theory.specs.OneEach.{OneEach}
use Rattle.merkle_theory.proofs.OneEach.{Partial, Numbered, IsSiteIn, nothing, only, merge, site_in, one_each}

-- a site in one of these peaks
abbrev pub IsSiteOf : List Located → Site → Type 0
IsSiteOf [] s = ⊥
IsSiteOf (peak ∷ peaks) s = IsSiteIn peak.0 peak.1 s ⊎ IsSiteOf peaks s

-- no two peaks share a site, and in each the nodes at one position are one
abbrev pub Apart : List Located → Type 0
Apart [] = Unit {0}
Apart (peak ∷ peaks) = Numbered peak.0 peak.1 × ((s : Site) → IsSiteIn peak.0 peak.1 s → IsSiteOf peaks s → ⊥) × Apart peaks

pub is_plain : (peaks : List Located) (s : Site) → IsSiteOf peaks s → (p : ℕ) × (s ≡ at_plain p)
is_plain [] s is = absurd is
is_plain (peak ∷ peaks) s (inl is) = (_, is.3)
is_plain (peak ∷ peaks) s (inr is) = is_plain peaks s is

pub fold_plain : (a b p : ℕ) (s : Site) → at_fold a b ≡ s → s ≡ at_plain p → ⊥
fold_plain a b p s one other = let clash : at_fold a b ≡ at_plain p = one ∙ other in absurd cc

fold_same : (a b c d : ℕ) → at_fold a b ≡ at_fold c d → (a ≡ c) × (b ≡ d)
fold_same a b c d same = (cc, cc)

module _ (hash : Hash) (last : ℕ) where
  pub parts_of : (site : Site) (x y : Made) (s : Site) (u : List ℕ) → Contains (strings hash (hashed site [] (both x y))) (s, u)
      → ((site ≡ s) × (value hash x ++ value hash y ≡ u)) ⊎ (Contains (strings hash x) (s, u) ⊎ Contains (strings hash y) (s, u))
  parts_of site x y s u here =
      ⊎_elim (λ first. let is = only (site, value hash x ++ value hash y) (s, u) first in inl (
        ap (λ (z : Site × List ℕ). z.0) is,
        ap (λ (z : Site
            × List ℕ). z.1) is,
      ))
      (λ rest. inr (Contains-append_cases (strings hash x) (strings hash y) (s, u) rest))
      (Contains-append_cases ((site, value hash x ++ value hash y) ∷ []) (strings hash x ++ strings hash y) (s, u) here)

  -- two parts with sites of their own, under a site that neither has
  pub one_of_both : (site : Site) (x y : Made) (X Y : Site → Type 0) → ((s : Site) (u : List ℕ) → Contains (strings hash x) (s, u) → X s)
      → ((s : Site) (u : List ℕ) → Contains (strings hash y) (s, u) → Y s)
      → ((s : Site) → site ≡ s → X s → ⊥) → ((s : Site) → site ≡ s → Y s → ⊥) → ((s : Site) → X s → Y s → ⊥)
      → OneEach (strings hash x)
      → OneEach (strings hash y)
      → OneEach (strings hash (hashed site [] (both x y)))
  one_of_both site x y X Y in_x in_y not_x not_y apart one_x one_y s u v one other =
      merge (site ≡ s) (value hash x ++ value hash y) (strings hash x) (strings hash y) s u v (parts_of site x y s u one)
      (parts_of site x y s v other) (one_x s u v) (one_y s u v)
      (λ w top here. not_x s top (in_x s w here)) (λ w top here. not_y s top (in_y s w here)) (λ w z l r. apart s (in_x s w l) (in_y s z r))

  -- peaks folded from the right, of which parts may be given
  abbrev pub Back : ℕ → Located → List Located → Made → Type 0
  Back n peak [] made = Partial peak.0 peak.1 made
  Back n peak (next ∷ peaks) made = ((d : List ℕ) × (made ≡ bytes d))
      ⊎ ((x : Made) × (y : Made) × Partial peak.0 peak.1 x × Back (suc n) next peaks y × (made ≡ hashed (at_fold n last) [] (both x y)))

  abbrev pub IsBackSite : ℕ → List Located → Site → Type 0
  IsBackSite n peaks s = IsSiteOf peaks s ⊎ ((a : ℕ) × (n ≤ a) × (s ≡ at_fold a last))

  pub back_site : (n : ℕ) (peak : Located) (peaks : List Located) (made : Made) → Back n peak peaks made → (s : Site) (u : List ℕ)
      → Contains (strings hash made) (s, u) → IsBackSite n (peak ∷ peaks) s
  back_site n peak [] made is s u here = inl (inl (site_in hash peak.0 peak.1 made is s u here))
  back_site n peak (next ∷ peaks) made (inl given) s u here = absurd (nothing (s, u) (subst (λ m. Contains (strings hash m) (s, u)) given.1 here))
  back_site n peak (next ∷ peaks) made (inr own) s u here =
      ⊎_elim (λ top. inr (n, omega arith, sym top.0))
      (λ below. ⊎_elim (λ l. inl (inl (site_in hash peak.0 peak.1 own.0 own.2 s u l)))
      (λ r. ⊎_elim (λ is. inl (inr is)) (λ is. inr (is.0, omega (arith, is.1), is.2)) (back_site (suc n) next peaks own.1 own.3 s u r)) below)
      (parts_of (at_fold n last) own.0 own.1 s u (subst (λ m. Contains (strings hash m) (s, u)) own.4 here))

  pub back_one : (n : ℕ) (peak : Located) (peaks : List Located) (made : Made) → Apart (peak ∷ peaks) → Back n peak peaks made
      → OneEach (strings hash made)
  back_one n peak [] made apart is = one_each hash peak.0 peak.1 made apart.0 is
  back_one n peak (next ∷ peaks) made apart (inl given) = λ s u v one other.
      absurd (nothing (s, u) (subst (λ m. Contains (strings hash m) (s, u)) given.1 one))
  back_one n peak (next ∷ peaks) made apart (inr own) =
      subst (λ m. OneEach (strings hash m)) (sym own.4)
      (one_of_both (at_fold n last) own.0 own.1 (IsSiteIn peak.0 peak.1) (IsBackSite (suc n) (next ∷ peaks))
      (site_in hash peak.0 peak.1 own.0 own.2) (back_site (suc n) next peaks own.1 own.3)
      (λ s top is. fold_plain n last _ s top is.3)
      (λ s top is. ⊎_elim (λ here. let p = is_plain (next ∷ peaks) s here in fold_plain n last p.0 s top p.1)
      (λ fold. let same = fold_same n last fold.0 last (top ∙ fold.2) in omega (arith, same.0, fold.1)) is)
      (λ s l r. ⊎_elim (λ here. apart.1 s l here) (λ fold. fold_plain fold.0 last _ s (sym fold.2) l.3) r)
      (one_each hash peak.0 peak.1 own.0 apart.0 own.2) (back_one (suc n) next peaks own.1 apart.2 own.3))

  -- peaks folded onto a first part, of which parts may be given
  abbrev pub Onto : ℕ → ℕ → Made → List Located → Made → Type 0
  Onto inactive n first [] made = made ≡ first
  Onto zero n first (peak ∷ peaks) made = (y : Made) × Back n peak peaks y × (made ≡ hashed (at_fold 1 last) [] (both first y))
  Onto (suc inactive) n first (peak ∷ peaks) made = (x : Made) × Partial peak.0 peak.1 x
      × Onto inactive (suc n) (hashed (at_fold 1 n) [] (both first x)) peaks made

  abbrev pub IsLeftSite : ℕ → (Site → Type 0) → Site → Type 0
  IsLeftSite n P s = P s ⊎ ((b : ℕ) × (b < n) × (s ≡ at_fold 1 b))

  pub onto_one : (inactive n : ℕ) (first : Made) (peaks : List Located) (made : Made) (P : Site → Type 0) → ((s : Site) (u : List ℕ)
      → Contains (strings hash first) (s, u) → IsLeftSite n P s)
      → ((s : Site) → P s → (p : ℕ) × (s ≡ at_plain p)) → ((s : Site) → P s → IsSiteOf peaks s → ⊥) → Apart peaks → 2 ≤ n
      → n + length peaks ≡ suc last → OneEach (strings hash first)
      → Onto inactive n first peaks made → OneEach (strings hash made)
  onto_one inactive n first [] made P in_first plain_p apart_p apart two total one is = subst (λ m. OneEach (strings hash m)) (sym is) one
  onto_one zero n first (peak ∷ peaks) made P in_first plain_p apart_p apart two total one is =
      subst (λ m. OneEach (strings hash m)) (sym is.2)
      (one_of_both (at_fold 1 last) first is.0 (IsLeftSite n P) (IsBackSite n (peak ∷ peaks)) in_first (back_site n peak peaks is.0 is.1)
      (λ s top l. ⊎_elim (λ here. let p = plain_p s here in fold_plain 1 last p.0 s top p.1)
      (λ fold. let same = fold_same 1 last 1 fold.0 (top ∙ fold.2) in omega (arith, same.1, fold.1, total)) l)
      (λ s top r. ⊎_elim (λ here. let p = is_plain (peak ∷ peaks) s here in fold_plain 1 last p.0 s top p.1)
      (λ fold. let same = fold_same 1 last fold.0 last (top ∙ fold.2) in omega (arith, same.0, fold.1, two)) r)
      (λ s l r. ⊎_elim
      (λ here. ⊎_elim (λ there. apart_p s here there) (λ fold. let p = plain_p s here in fold_plain fold.0 last p.0 s (sym fold.2) p.1) r)
      (λ left. ⊎_elim (λ there. let p = is_plain (peak ∷ peaks) s there in fold_plain 1 left.0 p.0 s (sym left.2) p.1)
      (λ fold. let same = fold_same 1 left.0 fold.0 last (sym left.2 ∙ fold.2) in omega (arith, same.0, fold.1, two)) r) l)
      one (back_one n peak peaks is.0 apart is.1))
  onto_one (suc inactive) n first (peak ∷ peaks) made P in_first plain_p apart_p apart two total one is =
      onto_one inactive (suc n) (hashed (at_fold 1 n) [] (both first is.0)) peaks made (λ s. P s ⊎ IsSiteIn peak.0 peak.1 s)
      (λ s u here. ⊎_elim (λ top. inr (n, omega arith, sym top.0))
      (λ below. ⊎_elim
      (λ l. ⊎_elim (λ p. inl (inl p)) (λ fold. inr (fold.0, omega (arith, fold.1), fold.2)) (in_first s u l))
      (λ r. inl (inr (site_in hash peak.0 peak.1 is.0 is.1 s u r))) below)
      (parts_of (at_fold 1 n) first is.0 s u here))
      (λ s p. ⊎_elim (λ here. plain_p s here) (λ here. (_, here.3)) p)
      (λ s p there. ⊎_elim (λ here. apart_p s here (inr there)) (λ here. apart.1 s here there) p)
      apart.2 (omega (arith, two)) (omega (arith, total))
      (one_of_both (at_fold 1 n) first is.0 (IsLeftSite n P) (IsSiteIn peak.0 peak.1) in_first (site_in hash peak.0 peak.1 is.0 is.1)
      (λ s top l. ⊎_elim (λ here. let p = plain_p s here in fold_plain 1 n p.0 s top p.1)
      (λ fold. let same = fold_same 1 n 1 fold.0 (top ∙ fold.2) in omega (arith, same.1, fold.1)) l)
      (λ s top r. fold_plain 1 n _ s top r.3)
      (λ s l r. ⊎_elim (λ here. apart_p s here (inl r)) (λ fold. fold_plain 1 fold.0 _ s (sym fold.2) r.3) l)
      one (one_each hash peak.0 peak.1 is.0 apart.0 is.1))
      is.2
