-- What is read as a bag has the form of the bag.
use Rattle.std.proofs.Common.{◌≡◌, ℕ, zero, suc, Bool, true, false, not, ◌||◌, List, [], ◌∷◌, length, Option, None}
use Rattle.std.proofs.Common.{Some, option_map, option_and_then, IfSome, refl, sym, ◌∙◌, ap}
use Rattle.std.specs.List.{AllByRecursion, list_all}
use Rattle.std.proofs.lemmas.Bool.{and_parts}
use Rattle.merkle_forest.specs.Forest.{leaf, branch}
use Rattle.merkle_forest.specs.Hashing.{Hash}
use Rattle.merkle_forest.specs.Trees.{Located}
use Rattle.merkle_theory.specs.Ranges.{meets, is_before, is_after}
use Rattle.merkle_forest.specs.Made.{Made, bytes, both, value}
use Rattle.merkle_theory.specs.MadeTrees.{Over, Elements, read_tree}
use Rattle.merkle_theory.specs.MadeRoots.{Naming, folded, made_peak, made_back, made_onto, made_bag, Streams, Bagged}
use Rattle.merkle_theory.specs.MadeRoots.{given_outer, read_peak, read_back, read_onto, read_group, read_bag}
use Rattle.merkle_forest.specs.Laws.Matching.{Matches, Agrees}
use Rattle.merkle_theory.specs.Laws.MadeTrees.{Sized, AllSized, Fits, AgreeOver, choose, made_sized, IsGood, read_good}

pub bind_good : {A B : Type 0} (P : A → Type 0) (Q : B → Type 0) (f : A → Option B) (got : Option A)
    → IfSome got P → ((x : A) → P x
    → IfSome (f x) Q) → IfSome (option_and_then f got) Q
bind_good P Q f None p each = tt
bind_good P Q f (Some x) p each = each x p

pub map_good : {A B : Type 0} (P : A → Type 0) (Q : B → Type 0) (f : A → B) (got : Option A) → IfSome got P
    → ((x : A) → P x → Q (f x))
    → IfSome (option_map f got) Q
map_good P Q f None p each = tt
map_good P Q f (Some x) p each = each x p

module _ (hash : Hash) (size : ℕ) (hash_sized : (xs : List ℕ) → length (hash xs) ≡ size) (Told : ℕ → ℕ → Type 0)
    (over_claimed over_real : Over)
    (fits : Fits hash size Told over_claimed over_real) (claimed real : Elements) (start stop : ℕ)
    (names : Naming) (last : ℕ) where
  -- what the peaks tell
  abbrev pub AgreeIn : List Located → Type 0
  AgreeIn peaks = AllByRecursion (λ peak. AgreeOver Told claimed real start stop peak.0 peak.1) peaks

  -- of what is there this has the form, and where it agrees with it what is told holds
  pub record IsRead (there : Made) (Tells : Type 0) (got : Made) : Type 0 where
    pub sized : Sized hash size got
    pub matches : Matches hash got there
    pub tells : Agrees hash got there → Tells

  abbrev pub AreSized : Streams → Type 0
  AreSized streams = AllSized size streams.0 × AllSized size streams.1

  abbrev pub IsBagged : Made → Type 0 → Made × Streams → Type 0
  IsBagged there Tells got = IsRead there Tells got.0 × AreSized got.1

  peak_sized : (peak : Located) → Sized hash size (made_peak over_real real peak)
  peak_sized peak =
      made_sized hash size hash_sized Told over_claimed over_real fits claimed real start stop peak.0 peak.1

  back_sized : (n : ℕ) (peak : Located) (peaks : List Located)
      → Sized hash size (made_back names over_real real last n peak peaks)
  back_sized n peak [] = peak_sized peak
  back_sized n peak (next ∷ peaks) =
      hash_sized (value hash
      (both (made_peak over_real real peak) (made_back names over_real real last (suc n) next peaks)))

  -- two that are read are read as folded
  two_read : (a b : ℕ) (x y c d : Made) (TellsX TellsY : Type 0) → IsRead c TellsX x
      → IsRead d TellsY y → Sized hash size c
      → IsRead (folded names a b c d) (TellsX × TellsY) (folded names a b x y)
  two_read a b x y c d TellsX TellsY one other sized_c = record {
    sized = hash_sized (value hash (both x y));
    matches = (refl, λ same. (one.sized ∙ sym sized_c, one.matches, other.matches));
    tells = λ agrees. (one.tells agrees.1.0, other.tells agrees.1.1);
  }

  told_otherwise : (there got : Made) (One Other : Type 0) → (One → Other) → IsRead there One got
      → IsRead there Other got
  told_otherwise there got One Other so it = record {
    sized = it.sized;
    matches = it.matches;
    tells = λ agrees. so (it.tells agrees);
  }

  told_more : (there : Made) (One Other : Type 0) → (One → Other) → (got : Bagged) → IfSome got (IsBagged there One)
      → IfSome got (IsBagged there Other)
  told_more there One Other so None it = tt
  told_more there One Other so (Some x) it = (told_otherwise there x.0 One Other so it.0, it.1)

  -- a peak that does not meet the range tells nothing
  tells_nothing : (peak : Located) → meets start stop peak ≡ false
      → AgreeOver Told claimed real start stop peak.0 peak.1
  tells_nothing (at, leaf p) out = λ meet. let clash = sym meet ∙ out in absurd cc
  tells_nothing (at, branch p left right) out = λ meet. let clash = sym meet ∙ out in absurd cc

  before_out : (peak : Located) → is_before start peak ≡ true → meets start stop peak ≡ false
  before_out peak is = ap (λ b. not (b || is_after stop peak)) is

  after_out : (b : Bool) (peak : Located) → is_after stop peak ≡ true → not (b || is_after stop peak) ≡ false
  after_out true peak is = refl
  after_out false peak is = ap not is

  all_out : (peaks : List Located) → list_all (is_after stop) peaks ≡ true → AgreeIn peaks
  all_out [] all = tt
  all_out (peak ∷ peaks) all = (
    tells_nothing peak (after_out (is_before start peak) peak
        (and_parts (is_after stop peak) (list_all (is_after stop) peaks) all).0),
    all_out peaks (and_parts (is_after stop peak) (list_all (is_after stop) peaks) all).1,
  )

  given_good : (streams : Streams) (there : Made) (Tells : Type 0) → Tells → AreSized streams
      → IfSome (given_outer streams) (IsBagged there Tells)
  given_good ([], inner) there Tells told sized = tt
  given_good ((d ∷ outer), inner) there Tells told sized =
      (record { sized = sized.0.0; matches = tt; tells = λ agrees. told }, (sized.0.1, sized.1))

  peak_good : (peak : Located) (streams : Streams) → AreSized streams
      → IfSome (read_peak over_claimed claimed start stop peak streams) (IsBagged (made_peak over_real real peak)
      (AgreeOver Told claimed real start stop peak.0 peak.1))
  peak_good peak streams sized =
      choose (λ got. IfSome got
      (IsBagged (made_peak over_real real peak) (AgreeOver Told claimed real start stop peak.0 peak.1)))
      (meets start stop peak)
      (option_map (λ x. (x.0, (streams.0, x.1))) (read_tree over_claimed claimed start stop peak.0 peak.1 streams.1))
      (given_outer streams)
      (λ is. map_good (IsGood hash size hash_sized Told over_claimed over_real fits claimed real
      start stop peak.0 peak.1)
      (IsBagged (made_peak over_real real peak) (AgreeOver Told claimed real start stop peak.0 peak.1))
      (λ x. (x.0, (streams.0, x.1)))
      (read_tree over_claimed claimed start stop peak.0 peak.1 streams.1)
      (read_good hash size hash_sized Told over_claimed over_real fits claimed real start stop peak.0
      peak.1 streams.1 sized.1)
      (λ x good. (record { sized = good.0.0; matches = good.0.1; tells = good.0.2 }, (sized.0, good.1))))
      (λ is. given_good streams (made_peak over_real real peak) (AgreeOver Told claimed real start stop peak.0 peak.1)
      (tells_nothing peak is) sized)

  pub back_good : (n : ℕ) (peak : Located) (peaks : List Located) (streams : Streams) → AreSized streams
      → IfSome (read_back names over_claimed claimed start stop last n peak peaks streams) (IsBagged
      (made_back names over_real real last n peak peaks) (AgreeIn (peak ∷ peaks)))
  back_good n peak [] streams sized =
      let Tells = AgreeOver Told claimed real start stop peak.0 peak.1 in
      told_more (made_peak over_real real peak) Tells (AgreeIn (peak ∷ [])) (λ told. (told, tt))
      (read_peak over_claimed claimed start stop peak streams) (peak_good peak streams sized)
  back_good n peak (next ∷ peaks) streams sized =
      choose (λ got. IfSome got (IsBagged (made_back names over_real real last n peak (next ∷ peaks)) (AgreeIn (peak
      ∷ next ∷ peaks)))) (list_all
      (is_after stop) (peak ∷ next ∷ peaks))
      (given_outer streams)
      (option_and_then (λ x. option_map (λ y. (folded names n last x.0 y.0, y.1))
      (read_back names over_claimed claimed start stop last (suc n) next peaks x.1))
      (read_peak over_claimed claimed start stop peak streams))
      (λ is. given_good streams (made_back names over_real real last n peak (next ∷ peaks)) (AgreeIn (peak
      ∷ next ∷ peaks)) (all_out
      (peak ∷ next ∷ peaks) is) sized)
      (λ is. bind_good (IsBagged (made_peak over_real real peak) (AgreeOver Told claimed real start stop peak.0 peak.1))
      (IsBagged (made_back names over_real real last n peak (next ∷ peaks)) (AgreeIn (peak ∷ next ∷ peaks)))
      (λ x. option_map (λ y. (folded names n last x.0 y.0, y.1)) (read_back names over_claimed claimed start stop last
      (suc n) next peaks x.1))
      (read_peak over_claimed claimed start stop peak streams) (peak_good peak streams sized)
      (λ x here. map_good (IsBagged (made_back names over_real real last (suc n) next peaks) (AgreeIn (next ∷ peaks)))
      (IsBagged (made_back names over_real real last n peak (next ∷ peaks)) (AgreeIn (peak ∷ next ∷ peaks)))
      (λ y. (folded names n last x.0 y.0, y.1))
      (read_back names over_claimed claimed start stop last (suc n) next peaks x.1)
      (back_good (suc n) next peaks x.1 here.1)
      (λ y there. (
        two_read n last x.0 y.0 (made_peak over_real real peak) (made_back names over_real real last (suc n) next peaks)
            (AgreeOver Told claimed real start stop peak.0 peak.1) (AgreeIn (next
            ∷ peaks)) here.0 there.0 (peak_sized peak),
        there.1,
      ))))

  pub onto_good : (inactive n : ℕ) (first there : Made) (Tells : Type 0) (peaks : List Located) (streams : Streams)
      → IsRead there Tells first
      → Sized hash size there → AreSized streams
      → IfSome (read_onto names over_claimed claimed start stop last inactive n first peaks streams) (IsBagged
      (made_onto names over_real real last inactive n there peaks) (Tells × AgreeIn peaks))
  onto_good inactive n first there Tells [] streams is sized_there sized =
      (told_otherwise there first Tells (Tells × Unit {0}) (λ told. (told, tt)) is, sized)
  onto_good zero n first there Tells (peak ∷ peaks) streams is sized_there sized =
      map_good (IsBagged (made_back names over_real real last n peak peaks) (AgreeIn (peak ∷ peaks)))
      (IsBagged (made_onto names over_real real last zero n there (peak ∷ peaks)) (Tells × AgreeIn (peak ∷ peaks)))
      (λ y. (folded names 1 last first y.0, y.1))
      (read_back names over_claimed claimed start stop last n peak peaks streams)
      (back_good n peak peaks streams sized)
      (λ y good. (
        two_read 1 last first y.0 there (made_back names over_real real last n peak peaks) Tells (AgreeIn
            (peak ∷ peaks)) is good.0 sized_there,
        good.1,
      ))
  onto_good (suc inactive) n first there Tells (peak ∷ peaks) streams is sized_there sized =
      let One = AgreeOver Told claimed real start stop peak.0 peak.1 in
      let next = folded names 1 n there (made_peak over_real real peak) in
      bind_good (IsBagged (made_peak over_real real peak) One)
      (IsBagged (made_onto names over_real real last (suc inactive) n there (peak ∷ peaks)) (Tells
      × AgreeIn (peak ∷ peaks)))
      (λ x. read_onto names over_claimed claimed start stop last inactive (suc n)
      (folded names 1 n first x.0) peaks x.1)
      (read_peak over_claimed claimed start stop peak streams) (peak_good peak streams sized)
      (λ x here. told_more (made_onto names over_real real last inactive (suc n) next peaks) ((Tells
      × One) × AgreeIn peaks) (Tells
      × AgreeIn (peak ∷ peaks)) (λ told. (told.0.0, (told.0.1, told.1)))
      (read_onto names over_claimed claimed start stop last inactive (suc n) (folded names 1 n first x.0) peaks x.1)
      (onto_good inactive (suc n) (folded names 1 n first x.0) next (Tells × One) peaks x.1
      (two_read 1 n first x.0 there (made_peak over_real real peak) Tells One is here.0 sized_there)
      (hash_sized (value hash (both there
      (made_peak over_real real peak)))) here.1))

  -- what is given for the first peaks has the form of whatever they are folded to
  pub group_good : (inactive n : ℕ) (d : List ℕ) (there : Made) (peaks : List Located)
      (streams : Streams) → length d ≡ size
      → Sized hash size there → AreSized streams
      → IfSome (read_group names over_claimed claimed start stop last inactive n (bytes d) peaks streams) (IsBagged
      (made_onto names over_real real last inactive n there peaks) (AgreeIn peaks))
  group_good inactive n d there [] streams long sized_there sized =
      (record { sized = long; matches = tt; tells = λ agrees. tt }, sized)
  group_good zero n d there (peak ∷ peaks) streams long sized_there sized =
      told_more (made_onto names over_real real last zero n there (peak ∷ peaks)) (Unit {0}
      × AgreeIn (peak ∷ peaks)) (AgreeIn (peak ∷ peaks)) (λ told. told.1)
      (read_onto names over_claimed claimed start stop last zero n (bytes d) (peak ∷ peaks) streams)
      (onto_good zero n (bytes d) there (Unit {0}) (peak ∷ peaks) streams (record {
        sized = long;
        matches = tt;
        tells = λ agrees. tt;
      }) sized_there sized)
  group_good (suc inactive) n d there (peak ∷ peaks) streams long sized_there sized =
      choose (λ got. IfSome got (IsBagged (made_onto names over_real real last (suc inactive) n there (peak ∷ peaks))
      (AgreeIn (peak ∷ peaks))))
      (is_before start peak)
      (read_group names over_claimed claimed start stop last inactive (suc n) (bytes d) peaks streams)
      (read_onto names over_claimed claimed start stop last (suc inactive) n (bytes d) (peak ∷ peaks) streams)
      (λ is. told_more (made_onto names over_real real last inactive (suc n)
      (folded names 1 n there (made_peak over_real real peak)) peaks)
      (AgreeIn peaks) (AgreeIn (peak ∷ peaks))
      (λ told. (tells_nothing peak (before_out peak is), told))
      (read_group names over_claimed claimed start stop last inactive (suc n) (bytes d) peaks streams)
      (group_good inactive (suc n) d (folded names 1 n there (made_peak over_real real peak)) peaks streams long
      (hash_sized (value hash (both there
      (made_peak over_real real peak)))) sized))
      (λ is. told_more (made_onto names over_real real last (suc inactive) n there (peak ∷ peaks)) (Unit {0}
      × AgreeIn (peak ∷ peaks)) (AgreeIn (peak ∷ peaks)) (λ told. told.1)
      (read_onto names over_claimed claimed start stop last (suc inactive) n (bytes d) (peak ∷ peaks) streams)
      (onto_good (suc inactive) n (bytes d) there (Unit {0}) (peak ∷ peaks) streams
      (record { sized = long; matches = tt; tells = λ agrees. tt }) sized_there sized))

  from_group : (d : List ℕ) (outer inner : List (List ℕ)) (inactive : ℕ) (peak : Located) (peaks : List Located)
      → is_before start peak ≡ true
      → AreSized ((d ∷ outer), inner)
      → IfSome (read_group names over_claimed claimed start stop last inactive 2 (bytes d) peaks
      (outer, inner)) (IsBagged
      (made_onto names over_real real last inactive 2 (made_peak over_real real peak) peaks) (AgreeIn (peak ∷ peaks)))
  from_group d outer inner inactive peak peaks is sized =
      told_more (made_onto names over_real real last inactive 2 (made_peak over_real real peak) peaks) (AgreeIn peaks)
      (AgreeIn (peak ∷ peaks))
      (λ told. (tells_nothing peak (before_out peak is), told))
      (read_group names over_claimed claimed start stop last inactive 2 (bytes d) peaks (outer, inner))
      (group_good inactive 2 d (made_peak over_real real peak) peaks (
        outer,
        inner,
      ) sized.0.0 (peak_sized peak) (sized.0.1, sized.1))

  begin_group : (streams : Streams) (inactive : ℕ) (peak : Located) (peaks : List Located)
      → is_before start peak ≡ true → AreSized streams
      → IfSome (option_and_then (λ x. read_group names over_claimed claimed start stop last inactive 2 x.0 peaks x.1)
      (given_outer streams))
      (IsBagged (made_onto names over_real real last inactive 2 (made_peak over_real real peak) peaks)
      (AgreeIn (peak ∷ peaks)))
  begin_group ([], inner) inactive peak peaks is sized = tt
  begin_group ((d ∷ outer), inner) inactive peak peaks is sized = from_group d outer inner inactive peak peaks is sized

  -- what is read has the form of the bag, and where it agrees with it the elements do
  pub bag_good : (inactive : ℕ) (peaks : List Located) (streams : Streams) → AreSized streams
      → IfSome (read_bag names over_claimed claimed start stop last inactive peaks streams) (IsBagged
      (made_bag names over_real real last inactive peaks) (AgreeIn peaks))
  bag_good inactive [] streams sized = tt
  bag_good zero (peak ∷ peaks) streams sized = back_good 1 peak peaks streams sized
  bag_good (suc inactive) (peak ∷ peaks) streams sized =
      let there = made_onto names over_real real last inactive 2 (made_peak over_real real peak) peaks in
      let One = AgreeOver Told claimed real start stop peak.0 peak.1 in
      choose (λ got. IfSome got (IsBagged there (AgreeIn (peak ∷ peaks)))) (is_before start peak)
      (option_and_then (λ x. read_group names over_claimed claimed start stop last inactive 2 x.0 peaks x.1)
      (given_outer streams))
      (option_and_then (λ x. read_onto names over_claimed claimed start stop last inactive 2 x.0 peaks x.1)
      (read_peak over_claimed claimed start stop peak streams))
      (λ is. begin_group streams inactive peak peaks is sized)
      (λ is. bind_good (IsBagged (made_peak over_real real peak) One) (IsBagged there (AgreeIn (peak ∷ peaks)))
      (λ x. read_onto names over_claimed claimed start stop last inactive 2 x.0 peaks x.1)
      (read_peak over_claimed claimed start stop peak streams)
      (peak_good peak streams sized)
      (λ x here. onto_good inactive 2 x.0 (made_peak over_real real peak) One peaks x.1 here.0
      (peak_sized peak) here.1))

  onto_sized : (inactive n : ℕ) (there : Made) (peaks : List Located) → Sized hash size there
      → Sized hash size (made_onto names over_real real last inactive n there peaks)
  onto_sized inactive n there [] sized = sized
  onto_sized zero n there (peak ∷ peaks) sized =
      hash_sized (value hash (both there (made_back names over_real real last n peak peaks)))
  onto_sized (suc inactive) n there (peak ∷ peaks) sized =
      onto_sized inactive (suc n) (folded names 1 n there (made_peak over_real real peak)) peaks
      (hash_sized (value hash (both there
      (made_peak over_real real peak))))

  -- the digest of the peaks, where there is one, has the size
  pub bag_sized : (inactive : ℕ) (peak : Located) (peaks : List Located)
      → Sized hash size (made_bag names over_real real last inactive (peak ∷ peaks))
  bag_sized zero peak peaks = back_sized 1 peak peaks
  bag_sized (suc inactive) peak peaks = onto_sized inactive 2 (made_peak over_real real peak) peaks (peak_sized peak)
