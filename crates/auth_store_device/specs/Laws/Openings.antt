-- Whether none of the calls' openings is by chance, told opening by opening.
use Rattle.std.proofs.Common.{ℕ, List, [], ◌∷◌, ◌++◌, length, subst, arith, refl}
use Rattle.std.specs.Prelude.{All}
use Rattle.std.proofs.lemmas.List.{get_or_append_left, get_or_push, length-append}
use Rattle.std.proofs.lemmas.List.Elements.{All-push}
use Rattle.paged_blob_parts.specs.Calls.{Call, opened, wrote, resized_to, synced}
use Rattle.paged_blob_parts.specs.Chance.{NoneByChance}
use Rattle.auth_store_device.specs.Openings.{Showing, openings_of, IsNotByChance}

module _ (sum : List ℕ → ℕ) (size : ℕ)
  where
    pub openings_none : (calls : List Call) → NoneByChance sum size calls
        → All (IsNotByChance sum size) (openings_of calls)
    openings_none [] none = λ k d below. absurd (omega (arith, below))
    openings_none (opened shown ∷ earlier) none =
        All-push (IsNotByChance sum size) (openings_of earlier) (record { before = earlier; shown = shown })
        (openings_none earlier none.1) none.0
    openings_none (wrote offset bytes is_sync ok ∷ earlier) none = openings_none earlier none
    openings_none (resized_to length_asked ok ∷ earlier) none = openings_none earlier none
    openings_none (synced bytes ok ∷ earlier) none = openings_none earlier none

    all_before : (xs : List Showing) (x : Showing) → All (IsNotByChance sum size) (xs ++ x ∷ [])
        → All (IsNotByChance sum size) xs
    all_before xs x all = λ k d below.
        subst (IsNotByChance sum size) (get_or_append_left xs (x ∷ []) d k below)
        (all k d (omega (arith, below, length-append xs (x ∷ []))))

    last : (xs : List Showing) (x : Showing) → All (IsNotByChance sum size) (xs ++ x ∷ []) → IsNotByChance sum size x
    last xs x all =
        subst (IsNotByChance sum size) (get_or_push xs x x (length xs) refl)
        (all (length xs) x (omega (arith, length-append xs (x ∷ []))))

    pub none_openings : (calls : List Call) → All (IsNotByChance sum size) (openings_of calls)
        → NoneByChance sum size calls
    none_openings [] all = tt
    none_openings (opened shown ∷ earlier) all =
        let x : Showing = record { before = earlier; shown = shown } in
        (last (openings_of earlier) x all, none_openings earlier (all_before (openings_of earlier) x all))
    none_openings (wrote offset bytes is_sync ok ∷ earlier) all = none_openings earlier all
    none_openings (resized_to length_asked ok ∷ earlier) all = none_openings earlier all
    none_openings (synced bytes ok ∷ earlier) all = none_openings earlier all
