-- What words make of a state is told by the keys that go and by those that are near.
use Rattle.std.proofs.Common.{◌≡◌, ℕ, Bool, true, false, cond, not, ◌&&◌, List, [], ◌∷◌, ◌++◌, Option, None, Some, refl}
use Rattle.std.proofs.Common.{ap, sym, ◌∙◌, subst, ⊎_elim}
use Rattle.std.specs.Prelude.{is_some, ◌||◌, map}
use Rattle.std.specs.List.{list_any}
use Rattle.std.proofs.lemmas.Bool.{cases_Bool}
use Rattle.state_ops.specs.Operation.{delete}
use Rattle.auth_store_parts.specs.Map.{Map, value_at, with_entry, without_key, next_key}
use Rattle.auth_store_parts.specs.Batch as batch
use Rattle.auth_store_parts.specs.Batch.{Word, after_word, map_after}
use Rattle.auth_store_parts.specs.History.{IsState, deletes, updates, batch_operations, is_kept}
use Rattle.auth_store_parts.specs.Laws.Lookups.{same, same_self, exact, IsState-with_entry, IsState-without_key}
use Rattle.auth_store_parts.specs.Laws.Lookups.{value_at-with_entry, value_at-without_key}
use Rattle.auth_store_parts.specs.Laws.Logs.{IsState-map_after}
use Rattle.auth_store_index.specs.Touched.{names}
use Rattle.auth_store_index.specs.Near.{prev_key, key_of, with_found, with_gone, gone_after, with_kept, near_after}
use Rattle.auth_store_index.specs.Near.{value_told, IsTold, IsCovered, AreCovered}
use Rattle.auth_store_index.specs.Laws.Nexts.{next_stays, next_there, next_comes}
use Rattle.auth_store_index.specs.Laws.Prevs.{prev_of_next, prev_of_next_with}
use Rattle.auth_store_index.specs.Laws.Touching.{unnamed, as_before}
use Rattle.auth_store_index.specs.Laws.Near.{far, deletes_told, updates_told}

never : {A : Type 0} → true ≡ false → A
never e = cc

-- what a key has after words: what they put, or else nothing where one names it, or else what it had
put_more : (p : Option (List ℕ)) (n m : Bool) (v : List ℕ) (o : Option (List ℕ))
    → cond (is_some p) p (cond n None (cond m (Some v) o))
    ≡ cond (is_some (cond (is_some p) p (cond n None (cond m (Some v) None))))
    (cond (is_some p) p (cond n None (cond m (Some v) None))) (cond (m || n) None o)
put_more (Some w) n m v o = refl
put_more None true true v o = refl
put_more None true false v o = refl
put_more None false true v o = refl
put_more None false false v o = refl

delete_more : (p : Option (List ℕ)) (n m : Bool) (o : Option (List ℕ))
    → cond (is_some p) p (cond n None (cond m None o))
    ≡ cond (is_some (cond (is_some p) p (cond n None None)))
    (cond (is_some p) p (cond n None None)) (cond (m || n) None o)
delete_more (Some w) n m o = refl
delete_more None true true o = refl
delete_more None true false o = refl
delete_more None false true o = refl
delete_more None false false o = refl

after_words : (words : List Word) (s : Map) (q : List ℕ) → IsState s
    → value_at (map_after words s) q
    ≡ cond (is_some (value_at (map_after words []) q)) (value_at (map_after words []) q)
    (cond (list_any (names q) words) None (value_at s q))
after_words [] s q h = refl
after_words (batch.put k v ∷ words) s q h =
    let p : Option (List ℕ) = value_at (map_after words []) q in
    let n : Bool = list_any (names q) words in
    let alone : value_at (map_after words (with_entry [] k v)) q
    ≡ cond (is_some p) p (cond n None (cond (same q k) (Some v) None)) = after_words words (with_entry [] k v) q tt in
    after_words words (with_entry s k v) q (IsState-with_entry s k v h)
    ∙ (ap (λ o. cond (is_some p) p (cond n None o)) (value_at-with_entry s k v q)
    ∙ (put_more p n (same q k) v (value_at s q)
    ∙ sym (ap (λ o. cond (is_some o) o (cond (same q k || n) None (value_at s q))) alone)))
after_words (batch.delete k ∷ words) s q h =
    let p : Option (List ℕ) = value_at (map_after words []) q in
    let n : Bool = list_any (names q) words in
    let alone : value_at (map_after words []) q ≡ cond (is_some p) p (cond n None None) = after_words words [] q tt in
    after_words words (without_key s k) q (IsState-without_key s k h)
    ∙ (ap (λ o. cond (is_some p) p (cond n None o)) (value_at-without_key s k q h)
    ∙ (delete_more p n (same q k) (value_at s q)
    ∙ sym (ap (λ o. cond (is_some o) o (cond (same q k || n) None (value_at s q))) alone)))

-- a key that an entry more is put at
with_found_at : (s : Map) (k : List ℕ) (o : Option (List ℕ)) (q : List ℕ)
    → value_at (with_found s k o) q ≡ cond (same q k && is_some o) o (value_at s q)
with_found_at s k None q = of (same q k)
  where
    of : (b : Bool) → value_at s q ≡ cond (b && false) None (value_at s q)
    of true = refl
    of false = refl
with_found_at s k (Some v) q = value_at-with_entry s k v q ∙ of (same q k)
  where
    of : (b : Bool) → cond b (Some v) (value_at s q) ≡ cond (b && true) (Some v) (value_at s q)
    of true = refl
    of false = refl

IsState-with_found : (s : Map) (k : List ℕ) (o : Option (List ℕ)) → IsState s → IsState (with_found s k o)
IsState-with_found s k None h = h
IsState-with_found s k (Some v) h = IsState-with_entry s k v h

names_key : (q : List ℕ) (word : Word) → names q word ≡ same q (key_of word)
names_key q (batch.put k v) = refl
names_key q (batch.delete k) = refl

module _ (old puts : Map) where
  -- the keys that go are those that words name, that were there, and at which nothing is put
  gone_more : (gone : Map) (k q : List ℕ) (n : Bool)
      → value_at gone q ≡ cond (n && not (is_some (value_at puts q))) (value_at old q) None
      → value_at (with_gone old puts gone k) q
      ≡ cond ((n || same q k) && not (is_some (value_at puts q))) (value_at old q) None
  gone_more gone k q n is =
      ⊎_elim (λ here. at_key (exact q k here) here) (λ away. elsewhere away (value_at puts k) refl)
      (cases_Bool (same q k))
    where
      or_false : (a : Bool) → a ≡ (a || false)
      or_false true = refl
      or_false false = refl

      elsewhere : same q k ≡ false → (o : Option (List ℕ)) → value_at puts k ≡ o
          → value_at (with_gone old puts gone k) q
          ≡ cond ((n || same q k) && not (is_some (value_at puts q))) (value_at old q) None
      elsewhere away (Some v) at =
          ap (λ o. value_at (cond (is_some o) gone (with_found gone k (value_at old k))) q) at
          ∙ (is ∙ (ap (λ b. cond (b && not (is_some (value_at puts q))) (value_at old q) None) (or_false n)
          ∙ ap (λ b. cond ((n || b) && not (is_some (value_at puts q))) (value_at old q) None) (sym away)))
      elsewhere away None at =
          ap (λ o. value_at (cond (is_some o) gone (with_found gone k (value_at old k))) q) at
          ∙ (with_found_at gone k (value_at old k) q
          ∙ (ap (λ b. cond (b && is_some (value_at old k)) (value_at old k) (value_at gone q)) away
          ∙ (is ∙ (ap (λ b. cond (b && not (is_some (value_at puts q))) (value_at old q) None) (or_false n)
          ∙ ap (λ b. cond ((n || b) && not (is_some (value_at puts q))) (value_at old q) None) (sym away)))))

      put_there : (m : Bool) (o : Option (List ℕ)) → cond (m && false) o None ≡ cond ((m || true) && false) o None
      put_there true o = refl
      put_there false o = refl

      goes : (m : Bool) (o g : Option (List ℕ)) → g ≡ cond (m && true) o None
          → cond (true && is_some o) o g ≡ cond ((m || true) && true) o None
      goes true None g at = at
      goes false None g at = at
      goes true (Some v) g at = refl
      goes false (Some v) g at = refl

      by : (o : Option (List ℕ)) → value_at puts q ≡ o → q ≡ k → same q k ≡ true
          → value_at (with_gone old puts gone k) q
          ≡ cond ((n || same q k) && not (is_some (value_at puts q))) (value_at old q) None
      by (Some v) at one here =
          ap (λ o. value_at (cond (is_some o) gone (with_found gone k (value_at old k))) q)
          (ap (value_at puts) (sym one) ∙ at)
          ∙ (is ∙ (ap (λ o. cond (n && not (is_some o)) (value_at old q) None) at
          ∙ (put_there n (value_at old q)
          ∙ (ap (λ o. cond ((n || true) && not (is_some o)) (value_at old q) None) (sym at)
          ∙ ap (λ b. cond ((n || b) && not (is_some (value_at puts q))) (value_at old q) None) (sym here)))))
      by None at one here =
          ap (λ o. value_at (cond (is_some o) gone (with_found gone k (value_at old k))) q)
          (ap (value_at puts) (sym one) ∙ at)
          ∙ (with_found_at gone k (value_at old k) q
          ∙ (ap (λ b. cond (b && is_some (value_at old k)) (value_at old k) (value_at gone q)) here
          ∙ (ap (λ x. cond (true && is_some (value_at old x)) (value_at old x) (value_at gone q)) (sym one)
          ∙ (goes n (value_at old q) (value_at gone q)
          (is ∙ ap (λ o. cond (n && not (is_some o)) (value_at old q) None) at)
          ∙ (ap (λ o. cond ((n || true) && not (is_some o)) (value_at old q) None) (sym at)
          ∙ ap (λ b. cond ((n || b) && not (is_some (value_at puts q))) (value_at old q) None) (sym here))))))

      at_key : q ≡ k → same q k ≡ true → value_at (with_gone old puts gone k) q
          ≡ cond ((n || same q k) && not (is_some (value_at puts q))) (value_at old q) None
      at_key one here = by (value_at puts q) refl one here

  gone_all : (words : List Word) (gone : Map) (q : List ℕ) (n : Bool)
      → value_at gone q ≡ cond (n && not (is_some (value_at puts q))) (value_at old q) None
      → value_at (gone_after old puts gone words) q
      ≡ cond ((n || list_any (names q) words) && not (is_some (value_at puts q))) (value_at old q) None
  gone_all [] gone q n is =
      is ∙ ap (λ b. cond (b && not (is_some (value_at puts q))) (value_at old q) None) (or_false n)
    where
      or_false : (a : Bool) → a ≡ (a || false)
      or_false true = refl
      or_false false = refl
  gone_all (word ∷ words) gone q n is =
      gone_all words (with_gone old puts gone (key_of word)) q (n
      || same q (key_of word)) (gone_more gone (key_of word) q n is)
      ∙ ap (λ b. cond (b && not (is_some (value_at puts q))) (value_at old q) None)
      (assoc n (same q (key_of word)) (list_any (names q) words)
      ∙ ap (λ b. n || (b || list_any (names q) words)) (sym (names_key q word)))
    where
      assoc : (a b c : Bool) → ((a || b) || c) ≡ (a || (b || c))
      assoc true b c = refl
      assoc false b c = refl

  IsState-gone : (words : List Word) (gone : Map) → IsState gone → IsState (gone_after old puts gone words)
  IsState-gone [] gone h = h
  IsState-gone (word ∷ words) gone h =
      IsState-gone words (with_gone old puts gone (key_of word)) (of (is_some (value_at puts (key_of word))))
    where
      of : (b : Bool) → IsState (cond b gone (with_found gone (key_of word) (value_at old (key_of word))))
      of true = h
      of false = IsState-with_found gone (key_of word) (value_at old (key_of word)) h

-- what is put tells the new state
puts_told : (words : List Word) (old : Map) → IsState old
    → IsTold old (gone_after old (map_after words []) [] words) (map_after words []) (map_after words old)
puts_told words old h = record {
  old_is = h;
  gone_is = IsState-gone old puts words [] tt;
  near_is = IsState-map_after words [] tt;
  new_is = IsState-map_after words old h;
  left = λ q v at. left_of (list_any (names q) words) (value_at puts q) (value_at old q) v (sym (goes q) ∙ at);
  apart =
      λ q at. apart_of (list_any (names q) words) (value_at puts q) (value_at old q) (sym (ap is_some (goes q)) ∙ at);
  told = λ q. after_words words old q h
      ∙ told_of (list_any (names q) words) (value_at puts q) (value_at old q) (value_at gone q) (goes q);
}
  where
    puts : Map
    puts = map_after words []

    gone : Map
    gone = gone_after old puts [] words

    goes : (q : List ℕ) → value_at gone q
        ≡ cond (list_any (names q) words && not (is_some (value_at puts q))) (value_at old q) None
    goes q = gone_all old puts words [] q false refl

    left_of : (n : Bool) (p o : Option (List ℕ)) (v : List ℕ) → cond (n && not (is_some p)) o None ≡ Some v → o ≡ Some v
    left_of true None o v at = at
    left_of true (Some w) o v at = absurd (cc)
    left_of false p o v at = absurd (cc)

    apart_of : (n : Bool) (p o : Option (List ℕ)) → is_some (cond (n && not (is_some p)) o None) ≡ true → p ≡ None
    apart_of true None o at = refl
    apart_of true (Some w) o at = absurd (cc)
    apart_of false p o at = absurd (cc)

    told_of : (n : Bool) (p o g : Option (List ℕ)) → g ≡ cond (n && not (is_some p)) o None
        → cond (is_some p) p (cond n None o) ≡ cond (is_some p) p (cond (is_some g) None o)
    told_of n (Some w) o g is = refl
    told_of true None None g is = ap (λ x. cond (is_some x) None None) (sym is)
    told_of true None (Some v) g is = ap (λ x. cond (is_some x) None (Some v)) (sym is)
    told_of false None o g is = ap (λ x. cond (is_some x) None o) (sym is)

module _ (old gone new : Map) where
  -- and so it does with entries that stay
  kept_told : (near : Map) (p : List ℕ) → IsTold old gone near new → IsTold old gone (with_kept old gone near p) new
  kept_told near p told = of (value_at gone p) (value_at near p) (value_at old p) refl refl refl
    where
      of : (g n o : Option (List ℕ)) → value_at gone p ≡ g → value_at near p ≡ n → value_at old p ≡ o
          → IsTold old gone (with_kept old gone near p) new
      of (Some v) n o is_g is_n is_o =
          subst (λ x. IsTold old gone (cond (is_some x
          || is_some (value_at near p)) near (with_found near p (value_at old p))) new)
          (sym is_g) told
      of None (Some v) o is_g is_n is_o =
          subst (λ x. IsTold old gone (cond (is_some x
          || is_some (value_at near p)) near (with_found near p (value_at old p))) new)
          (sym is_g)
          (subst (λ x. IsTold old gone (cond (is_some x) near (with_found near p (value_at old p))) new)
          (sym is_n) told)
      of None None None is_g is_n is_o =
          subst (λ x. IsTold old gone (cond (is_some x
          || is_some (value_at near p)) near (with_found near p (value_at old p))) new)
          (sym is_g)
          (subst (λ x. IsTold old gone (cond (is_some x) near (with_found near p (value_at old p))) new) (sym is_n)
          (subst (λ x. IsTold old gone (with_found near p x) new) (sym is_o) told))
      of None None (Some v) is_g is_n is_o =
          subst (λ x. IsTold old gone (cond (is_some x
          || is_some (value_at near p)) near (with_found near p (value_at old p))) new)
          (sym is_g)
          (subst (λ x. IsTold old gone (cond (is_some x) near (with_found near p (value_at old p))) new) (sym is_n)
          (subst (λ x. IsTold old gone (with_found near p x) new) (sym is_o) more))
        where
          here : value_at new p ≡ Some v
          here = told.told p
              ∙ (ap (λ x. cond (is_some x) x (cond (is_some (value_at gone p)) None (value_at old p))) is_n
              ∙ (ap (λ x. cond (is_some x) None (value_at old p)) is_g ∙ is_o))

          apart_at : (q : List ℕ) → is_some (value_at gone q) ≡ true → value_at (with_entry near p v) q ≡ None
          apart_at q goes = ⊎_elim
              (λ one. never (sym goes ∙ (ap (λ k. is_some (value_at gone k)) (exact q p one) ∙ ap is_some is_g)))
              (λ away. value_at-with_entry near p v q
              ∙ (ap (λ b. cond b (Some v) (value_at near q)) away ∙ told.apart q goes))
              (cases_Bool (same q p))

          told_at : (q : List ℕ) → value_at new q ≡ value_told old gone (with_entry near p v) q
          told_at q = ⊎_elim
              (λ one. let at : value_at (with_entry near p v) q ≡ Some v =
              value_at-with_entry near p v q ∙ ap (λ b. cond b (Some v) (value_at near q)) one in
              ap (value_at new) (exact q p one) ∙ (here
              ∙ sym (ap (λ x. cond (is_some x) x (cond (is_some (value_at gone q)) None (value_at old q))) at)))
              (λ away. let at : value_at (with_entry near p v) q ≡ value_at near q =
              value_at-with_entry near p v q ∙ ap (λ b. cond b (Some v) (value_at near q)) away in
              told.told q ∙ sym (ap
              (λ x. cond (is_some x) x (cond (is_some (value_at gone q)) None (value_at old q))) at))
              (cases_Bool (same q p))

          more : IsTold old gone (with_entry near p v) new
          more = record {
            old_is = told.old_is;
            gone_is = told.gone_is;
            near_is = IsState-with_entry near p v told.near_is;
            new_is = told.new_is;
            left = told.left;
            apart = apart_at;
            told = told_at;
          }

  all_told : (words : List Word) (near : Map) → IsTold old gone near new
      → IsTold old gone (near_after old gone near words) new
  all_told [] near told = told
  all_told (word ∷ words) near told =
      all_told words (with_kept old gone near (prev_key old (key_of word)))
      (kept_told near (prev_key old (key_of word)) told)

-- a key before one that is named is covered, and stays so
module _ (old gone : Map) where
  stays_near : (near : Map) (p q : List ℕ) → is_some (value_at near q) ≡ true
      → is_some (value_at (with_kept old gone near p) q) ≡ true
  stays_near near p q there = of (is_some (value_at gone p) || is_some (value_at near p))
    where
      more : (a : Bool) (o x : Option (List ℕ)) → is_some x ≡ true → is_some (cond (a && is_some o) o x) ≡ true
      more true (Some v) x h = refl
      more true None x h = h
      more false o x h = h

      of : (b : Bool) → is_some (value_at (cond b near (with_found near p (value_at old p))) q) ≡ true
      of true = there
      of false =
          ap is_some (with_found_at near p (value_at old p) q)
          ∙ more (same q p) (value_at old p) (value_at near q) there

  stay_near : (words : List Word) (near : Map) (q : List ℕ) → is_some (value_at near q) ≡ true
      → is_some (value_at (near_after old gone near words) q) ≡ true
  stay_near [] near q there = there
  stay_near (word ∷ words) near q there =
      stay_near words (with_kept old gone near (prev_key old (key_of word))) q
      (stays_near near (prev_key old (key_of word)) q there)

  covers : (near : Map) (p : List ℕ) → is_some (value_at old p) ≡ true
      → (is_some (value_at gone p) || is_some (value_at (with_kept old gone near p) p)) ≡ true
  covers near p there = of (is_some (value_at gone p)) (is_some (value_at near p)) refl refl
    where
      second : (b : Bool) (x : Bool) → x ≡ true → (b || x) ≡ true
      second true x h = refl
      second false x h = h

      some : (o x : Option (List ℕ)) → is_some o ≡ true → is_some (cond (true && is_some o) o x) ≡ true
      some (Some v) x h = refl
      some None x h = absurd (cc)

      of : (b c : Bool) → is_some (value_at gone p) ≡ b → is_some (value_at near p) ≡ c
          → (is_some (value_at gone p) || is_some (value_at (with_kept old gone near p) p)) ≡ true
      of true c is_b is_c = ap (λ b. b || is_some (value_at (with_kept old gone near p) p)) is_b
      of false true is_b is_c = second (is_some (value_at gone p)) _ (stays_near near p p is_c)
      of false false is_b is_c = second (is_some (value_at gone p)) _
          (ap (λ b. is_some (value_at (cond (b
          || is_some (value_at near p)) near (with_found near p (value_at old p))) p)) is_b
          ∙ (ap (λ b. is_some (value_at (cond b near (with_found near p (value_at old p))) p)) is_c
          ∙ (ap is_some (with_found_at near p (value_at old p) p)
          ∙ (ap (λ b. is_some (cond (b && is_some (value_at old p)) (value_at old p) (value_at near p))) (same_self p)
          ∙ some (value_at old p) (value_at near p) there))))

  later_covers : (words : List Word) (near : Map) (p : List ℕ)
      → (is_some (value_at gone p) || is_some (value_at near p)) ≡ true
      → (is_some (value_at gone p) || is_some (value_at (near_after old gone near words) p)) ≡ true
  later_covers words near p is = of (is_some (value_at gone p)) (is_some (value_at near p)) refl is
    where
      of : (b c : Bool) → is_some (value_at near p) ≡ c → (b || c) ≡ true
          → (b || is_some (value_at (near_after old gone near words) p)) ≡ true
      of true c is_c h = refl
      of false c is_c h = stay_near words near p (is_c ∙ h)

  all_covered : (words : List Word) (near : Map) → AreCovered old gone (near_after old gone near words) words
  all_covered [] near = tt
  all_covered (word ∷ words) near =
      let p : List ℕ = prev_key old (key_of word) in (
        λ there. later_covers words (with_kept old gone near p) p (covers near p there),
        all_covered words (with_kept old gone near p),
      )

  named_covered : (near : Map) (words : List Word) (x : List ℕ) → AreCovered old gone near words
      → list_any (names x) words ≡ true → IsCovered old gone near x
  named_covered near [] x all named = absurd (cc)
  named_covered near (word ∷ words) x all named =
      ⊎_elim
      (λ here. subst (IsCovered old gone near) (sym (exact x (key_of word) (sym (names_key x word) ∙ here))) all.0)
      (λ away. named_covered near words x all.1 (sym (ap (λ b. b || list_any (names x) words) away) ∙ named))
      (cases_Bool (names x word))

-- what is not near is kept
far_kept : (words : List Word) (old gone near : Map) → IsTold old gone near (map_after words old)
    → AreCovered old gone near words → (q v : List ℕ) → value_at (map_after words old) q ≡ Some v
    → value_at near q ≡ None → is_kept old (map_after words old) q v ≡ true
far_kept words old gone near told covered q v at away =
    as_before old new q v was (next_stays old new q told.old_is told.new_is next_left next_was)
  where
    new : Map
    new = map_after words old

    stays : is_some (value_at gone q) ≡ false
    stays = (far old gone near new told q away (ap is_some at)).stays

    was : value_at old q ≡ Some v
    was = sym (far old gone near new told q away (ap is_some at)).same ∙ at

    neither : (a b : Bool) → a ≡ false → b ≡ false → (a || b) ≡ true → ⊥
    neither a b is_a is_b h = never (sym h ∙ (ap (λ x. x || b) is_a ∙ is_b))

    -- no word names a key that the key stands before
    alone : (x : List ℕ) → list_any (names x) words ≡ true → prev_key old x ≡ q → ⊥
    alone x named before =
        neither (is_some (value_at gone (prev_key old x))) (is_some (value_at near (prev_key old x)))
        (ap (λ k. is_some (value_at gone k)) before ∙ stays)
        (ap (λ k. is_some (value_at near k)) before ∙ ap is_some away)
        (named_covered old gone near words x covered named (ap (λ k. is_some (value_at old k)) before ∙ ap is_some was))

    unlike : (x : List ℕ) → (is_some (value_at new x) ≡ is_some (value_at old x) → ⊥) → list_any (names x) words ≡ true
    unlike x differ = ⊎_elim (λ yes. yes)
        (λ no. absurd (differ (ap is_some (unnamed words old x told.old_is no))))
        (cases_Bool (list_any (names x) words))

    next_left : is_some (value_at new (next_key old q)) ≡ true
    next_left =
        let x : List ℕ = next_key old q in
        let own : is_some (value_at old x) ≡ true = next_there old q v was in
        ⊎_elim (λ yes. yes)
        (λ no. absurd (alone x (unlike x (λ one. never (sym own ∙ (sym one ∙ no))))
        (prev_of_next old q told.old_is (ap is_some was))))
        (cases_Bool (is_some (value_at new x)))

    none : (o : Option (List ℕ)) → is_some o ≡ false → o ≡ None
    none None h = refl
    none (Some w) h = cc

    next_was : is_some (value_at old (next_key new q)) ≡ true
    next_was =
        let y : List ℕ = next_key new q in
        let own : is_some (value_at new y) ≡ true = next_there new q v at in
        ⊎_elim (λ yes. yes)
        (λ no. absurd (alone y (unlike y (λ one. never (sym own ∙ (one ∙ no))))
        (prev_of_next_with old y [] q told.old_is (ap is_some was) (none (value_at old y) no)
        (next_comes old new q v v [] told.old_is told.new_is was at next_left))))
        (cases_Bool (is_some (value_at old y)))

-- a batch is told by the keys that go and by those that are near
pub near_told : (words : List Word) (old : Map) → IsState old
    → let puts : Map = map_after words [] in
    let gone : Map = gone_after old puts [] words in
    IsTold old gone (near_after old gone puts words) (map_after words old)
near_told words old h =
    let puts : Map = map_after words [] in
    let gone : Map = gone_after old puts [] words in
    all_told old gone (map_after words old) words puts (puts_told words old h)

pub near_tell : (words : List Word) (old : Map) → IsState old
    → let puts : Map = map_after words [] in
    let gone : Map = gone_after old puts [] words in
    let new : Map = map_after words old in
    batch_operations old new ≡ map (λ e. delete e.0) gone ++ updates (near_after old gone puts words) old new
near_tell words old h =
    let puts : Map = map_after words [] in
    let gone : Map = gone_after old puts [] words in
    let near : Map = near_after old gone puts words in
    let new : Map = map_after words old in
    let told : IsTold old gone near new = near_told words old h in
    sym (ap (λ l. l ++ updates near old new) (deletes_told old gone near new told)
    ∙ ap (λ l. deletes old new ++ l)
    (updates_told old gone near new told (far_kept words old gone near told (all_covered old gone words puts))))
