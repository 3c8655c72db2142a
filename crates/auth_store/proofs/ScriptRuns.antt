-- Lines of a script, one after the other.
use Rattle.std.proofs.Common.{◌≡◌, ◌≤◌, ◌<◌, ◌^◌, ◌+◌, ◌⊎◌, inl, inr, eqb, ltb, not, cond, ℕ, List, [], ◌∷◌, ◌++◌}
use Rattle.std.proofs.Common.{length, take, drop, Bool, true, false, Option, None, Some, refl, ap, sym, ◌∙◌, subst}
use Rattle.std.proofs.Common.{arith, append_assoc, append-nil, length-append, option_map, MatchOption, IfSome}
use Rattle.std.proofs.Common.{position, ltb-true, ltb-false, Bor}
use Rattle.std.proofs.KnownBytes.{Appends-nil, Appends-trans}
use Rattle.std.proofs.lemmas.List.Splits.{slice_split_first}
use Rattle.std.specs.Prelude.{codes, Result, Ok, Err}
use Rattle.std.specs.Fmt.{decimal}
use Rattle.std.specs.Io.KnownBytes.{Appends}
use Rattle.std.specs.List.{onto_first, position_or_len}
use Rattle.rand_pcg.specs.Lcg.{Lcg}
use Rattle.auth_store_device.specs.Devices.{DeviceState}
use Rattle.auth_store_parts.specs.Line.{line_of}
use Rattle.auth_store_parts.specs.Report.{reported}
use Rattle.auth_store_device.specs.Settings.{IsNew}
use Rattle.auth_store_parts.specs.declared.script.line.Line.{Line}
use Rattle.auth_store_parts.specs.declared.script.line.Line.TheVariants.{Empty, New, Open, Put, Delete, Commit, Get}
use Rattle.auth_store_parts.specs.declared.script.line.Line.TheVariants.{Root, Floor, Len, Prune, Prove, Proof}
use Rattle.auth_store_parts.specs.declared.script.line.Line.TheVariants.{CheckValue, CheckAbsent, Cut, Mode, Fault}
use Rattle.auth_store_parts.specs.declared.script.line.Line.TheVariants.{Close, Crash}
use Rattle.auth_store_parts.specs.declared.script.words.TreeFamily.{TreeFamily}
use Rattle.auth_store_machine.specs.Standing.{SessionState}
use Rattle.auth_store_machine.proofs.Runs.{runs_none}
use Rattle.auth_store_machine.proofs.Sound.{closed_sound}
use Rattle.auth_store.specs.ScriptLines.{Exchange, Progress, Does, new_progress, script_format, script_machine}
use Rattle.auth_store.specs.ScriptRun.{LineDoes, HasTaken, Ends, IsRunOf, Prints, Stops, lines_of, script_cache, seeded_by}
use Rattle.auth_store.specs.ScriptCode.{DoesLine, DoesText, Handled, HasRun, IsRunning, Now, kept_in}
use Rattle.auth_store.specs.declared.script.end.End.{End}
use Rattle.auth_store.specs.declared.script.end.End.TheVariants as ends

onto_first_length : (b : ℕ) (lines : List (List ℕ)) (n : ℕ) → length lines ≤ n + 1 → length (onto_first b lines) ≤ n + 1
onto_first_length b [] n few = omega arith
onto_first_length b (line ∷ lines) n few = few

at_most : (b : ℕ) (text : List ℕ) (newline : Bool) → length (lines_of text) ≤ length text + 1
    → length (cond newline ([] ∷ lines_of text) (onto_first b (lines_of text))) ≤ length (b ∷ text) + 1
at_most b text true few = omega arith
at_most b text false few = let same = onto_first_length b (lines_of text) (length text) few in omega arith

-- a script has at most one line more than bytes
pub few_lines : (text : List ℕ) → length (lines_of text) ≤ length text + 1
few_lines [] = omega arith
few_lines (b ∷ text) = at_most b text (eqb b 10) (few_lines text)

-- one line more is taken
pub taken_more : (first : Option Progress) (texts : List (List ℕ)) (text : List ℕ) (asked here : List Exchange) (said line : List ℕ)
    (now next : Option Progress)
    → HasTaken first texts asked said now → LineDoes now (line_of text) here (Some line) next
    → HasTaken first (texts ++ text ∷ []) (asked ++ here) (said ++ line) next
taken_more first [] text asked here said line now next taken does = (
  next,
  here,
  [],
  ap (λ e. e ++ here) taken.0 ∙ sym (append-nil here),
  line,
  [],
  ap (λ s. s ++ line) taken.1 ∙ sym (append-nil line),
  subst (λ n. LineDoes n (line_of text) here (Some line) next) taken.2 does,
  (refl, refl, refl),
)
taken_more first (t ∷ texts) text asked here said line now next
    (at, one, later, asks, front, rest, says, did, taken) does = (
      at,
      one,
      later ++ here,
      ap (λ e. e ++ here) asks ∙ append_assoc one later here,
      front,
      rest ++ line,
      ap (λ s. s ++ line) says ∙ append_assoc front rest line,
      did,
      taken_more at texts text later here rest line now next taken does,
    )

-- ---- a script's first line

no_newline : (b : ℕ) (text : List ℕ) (newline : Bool) → (length text ≤ position_or_len (λ b. eqb b 10) text
    → lines_of text ≡ text ∷ [])
    → length (b ∷ text) ≤ cond (not newline) (1 + position_or_len (λ b. eqb b 10) text) 0
    → cond newline ([] ∷ lines_of text) (onto_first b (lines_of text)) ≡ (b ∷ text) ∷ []
no_newline b text true rest long = absurd (omega arith)
no_newline b text false rest long = ap (onto_first b) (rest (omega arith))

all_before : (text : List ℕ) → length text ≤ position_or_len (λ b. eqb b 10) text → lines_of text ≡ text ∷ []
all_before [] long = refl
all_before (b ∷ text) long = no_newline b text (eqb b 10) (all_before text) long

found : (within : Bool) (place end : ℕ) → cond within (Some place) None ≡ Some end → (within ≡ true) × (place ≡ end)
found true place end is = (refl, cc)
found false place end is = absurd cc

not_found : (within : Bool) (place : ℕ) → cond within (Some place) None ≡ None → within ≡ false
not_found true place is = absurd cc
not_found false place is = refl

-- a newline ends it
pub cut_at : (text : List ℕ) (end : ℕ) → position (λ b. eqb b 10) text ≡ Some end
    → lines_of text ≡ take end text ∷ lines_of (drop (end + 1) text)
cut_at text end is =
    let there = found (ltb (position_or_len (λ b. eqb b 10) text) (length text)) (position_or_len (λ b. eqb b 10) text)
    end is in
    slice_split_first (λ b. eqb b 10) text 0 (ltb-true _ _ there.0)
    ∙ ap (λ n. take n text ∷ lines_of (drop (n + 1) text)) there.1

-- or it is the only one
pub cut_none : (text : List ℕ) → position (λ b. eqb b 10) text ≡ None → lines_of text ≡ text ∷ []
cut_none text is = all_before text (ltb-false _ _ (not_found (ltb (position_or_len (λ b. eqb b 10) text) (length text))
    (position_or_len (λ b. eqb b 10) text) is))

-- ---- a line of a run

-- where nothing is asked, a run stays where it is
stays_running : (now : Option Now) (earlier : List Exchange) → IsRunning earlier now → IsRunning (earlier ++ []) now
stays_running now earlier running = subst (λ e. IsRunning e now) (sym (append-nil earlier)) running

-- a text that spells no line
pub no_line : (now : Option Now) (spelled : Option Line) → spelled ≡ None → DoesText now spelled now None []
no_line now spelled none =
    subst (λ l. DoesText now l now None []) (sym none) ((refl, refl, refl), stays_running now)

-- an empty line before the run begins
pub empty_before : (now : Option Now) (spelled : Option Line) → now ≡ None → spelled ≡ Some Empty
    → DoesText now spelled now (Some []) []
empty_before now spelled none empty =
    subst (λ l. DoesText now l now (Some []) []) (sym empty)
    (subst (λ n. DoesText n (Some Empty) n (Some []) []) (sym none) ((refl, refl, refl), stays_running None))

-- any other line before the run begins
other_line : (line : Line) → (line ≡ Empty → ⊥) → ((family : TreeFamily) (seed : ℕ) → line ≡ New family seed → ⊥)
    → LineDoes None (Some line) [] None None
other_line Empty empty begins = absurd (empty refl)
other_line (New tree seed) empty begins = absurd (begins tree seed refl)
other_line Open empty begins = (refl, refl, refl)
other_line (Put key number) empty begins = (refl, refl, refl)
other_line (Delete key) empty begins = (refl, refl, refl)
other_line (Commit metadata) empty begins = (refl, refl, refl)
other_line (Get key) empty begins = (refl, refl, refl)
other_line Root empty begins = (refl, refl, refl)
other_line Floor empty begins = (refl, refl, refl)
other_line Len empty begins = (refl, refl, refl)
other_line (Prune location) empty begins = (refl, refl, refl)
other_line (Prove key) empty begins = (refl, refl, refl)
other_line Proof empty begins = (refl, refl, refl)
other_line (CheckValue key number) empty begins = (refl, refl, refl)
other_line (CheckAbsent key) empty begins = (refl, refl, refl)
other_line (Cut calls) empty begins = (refl, refl, refl)
other_line (Mode mode) empty begins = (refl, refl, refl)
other_line (Fault kind n d) empty begins = (refl, refl, refl)
other_line Close empty begins = (refl, refl, refl)
other_line Crash empty begins = (refl, refl, refl)

pub other_before : (now : Option Now) (spelled : Option Line) (line : Line) → now ≡ None → spelled ≡ Some line
    → (line ≡ Empty → ⊥) → ((family : TreeFamily) (seed : ℕ) → line ≡ New family seed → ⊥) → DoesText now spelled now None []
other_before now spelled line none is empty begins =
    subst (λ l. DoesText now l now None []) (sym is)
    (subst (λ n. DoesText n (Some line) n None []) (sym none) (other_line line empty begins, stays_running None))

-- the seed and the family stay
same_seed : (now : Progress) (line : Line) (exchanges : List Exchange) (printed : Option (List ℕ)) (next : Progress)
    → Does now line exchanges printed next → next.seed ≡ now.seed
same_seed now Empty exchanges printed next does = ap (λ (p : Progress). p.seed) does.2
same_seed now (New tree seed) exchanges printed next does = ap (λ (p : Progress). p.seed) does.2
same_seed now Open exchanges printed next does = ap (λ (p : Progress). p.seed) does.1
same_seed now (Put key number) exchanges printed next does = ap (λ (p : Progress). p.seed) does.2
same_seed now (Delete key) exchanges printed next does = ap (λ (p : Progress). p.seed) does.2
same_seed now (Commit metadata) exchanges printed next does = ap (λ (p : Progress). p.seed) does.1
same_seed now (Get key) exchanges printed next does = ap (λ (p : Progress). p.seed) does.1
same_seed now Root exchanges printed next does = ap (λ (p : Progress). p.seed) does.1
same_seed now Floor exchanges printed next does = ap (λ (p : Progress). p.seed) does.1
same_seed now Len exchanges printed next does = ap (λ (p : Progress). p.seed) does.1
same_seed now (Prune location) exchanges printed next does = ap (λ (p : Progress). p.seed) does.1
same_seed now (Prove key) exchanges printed next (inl (answer, none, asks, same, says)) = ap (λ (p : Progress). p.seed) same
same_seed now (Prove key) exchanges printed next (inr (found, answer, asks, same, says)) = ap (λ (p : Progress). p.seed) same
same_seed now Proof exchanges printed next does = ap (λ (p : Progress). p.seed) does.2
same_seed now (CheckValue key number) exchanges printed next does = ap (λ (p : Progress). p.seed) does.1
same_seed now (CheckAbsent key) exchanges printed next does = ap (λ (p : Progress). p.seed) does.1
same_seed now (Cut calls) exchanges printed next does = ap (λ (p : Progress). p.seed) does.1
same_seed now (Mode mode) exchanges printed next does = ap (λ (p : Progress). p.seed) does.1
same_seed now (Fault kind n d) exchanges printed next (inl (rate, first, second, sets)) = ap (λ (p : Progress). p.seed) sets.1
same_seed now (Fault kind n d) exchanges printed next (inr (none, quiet, says, same)) = ap (λ (p : Progress). p.seed) same
same_seed now Close exchanges printed next does = ap (λ (p : Progress). p.seed) does.1
same_seed now Crash exchanges printed next does = ap (λ (p : Progress). p.seed) does.1

same_family : (now : Progress) (line : Line) (exchanges : List Exchange) (printed : Option (List ℕ)) (next : Progress)
    → Does now line exchanges printed next → next.family ≡ now.family
same_family now Empty exchanges printed next does = ap (λ (p : Progress). p.family) does.2
same_family now (New tree seed) exchanges printed next does = ap (λ (p : Progress). p.family) does.2
same_family now Open exchanges printed next does = ap (λ (p : Progress). p.family) does.1
same_family now (Put key number) exchanges printed next does = ap (λ (p : Progress). p.family) does.2
same_family now (Delete key) exchanges printed next does = ap (λ (p : Progress). p.family) does.2
same_family now (Commit metadata) exchanges printed next does = ap (λ (p : Progress). p.family) does.1
same_family now (Get key) exchanges printed next does = ap (λ (p : Progress). p.family) does.1
same_family now Root exchanges printed next does = ap (λ (p : Progress). p.family) does.1
same_family now Floor exchanges printed next does = ap (λ (p : Progress). p.family) does.1
same_family now Len exchanges printed next does = ap (λ (p : Progress). p.family) does.1
same_family now (Prune location) exchanges printed next does = ap (λ (p : Progress). p.family) does.1
same_family now (Prove key) exchanges printed next (inl (answer, none, asks, same, says)) = ap (λ (p : Progress). p.family) same
same_family now (Prove key) exchanges printed next (inr (found, answer, asks, same, says)) = ap (λ (p : Progress). p.family) same
same_family now Proof exchanges printed next does = ap (λ (p : Progress). p.family) does.2
same_family now (CheckValue key number) exchanges printed next does = ap (λ (p : Progress). p.family) does.1
same_family now (CheckAbsent key) exchanges printed next does = ap (λ (p : Progress). p.family) does.1
same_family now (Cut calls) exchanges printed next does = ap (λ (p : Progress). p.family) does.1
same_family now (Mode mode) exchanges printed next does = ap (λ (p : Progress). p.family) does.1
same_family now (Fault kind n d) exchanges printed next (inl (rate, first, second, sets)) = ap (λ (p : Progress). p.family) sets.1
same_family now (Fault kind n d) exchanges printed next (inr (none, quiet, says, same)) = ap (λ (p : Progress). p.family) same
same_family now Close exchanges printed next does = ap (λ (p : Progress). p.family) does.1
same_family now Crash exchanges printed next does = ap (λ (p : Progress). p.family) does.1

-- what a line does once the run has begun
line_does : (p new : Now) (line : Line) (printed : Option (List ℕ)) (exchanges : List Exchange)
    → DoesLine p line new printed exchanges → DoesText (Some p) (Some line) (Some new) printed exchanges
line_does p new line printed exchanges does =
    let first : DeviceState Lcg → SessionState Lcg = λ device. record { parts = Some (device, script_cache); store = None } in (
      (new.progress, refl, does.0),
      λ earlier (device, begun, ran). (
        device,
        subst (λ seed. IsNew (seeded_by seed) device) (sym (same_seed p.progress line exchanges printed new.progress does.0)) begun,
        subst (λ family. HasRun family (first device) (earlier ++ exchanges) new.session)
            (sym (same_family p.progress line exchanges printed new.progress does.0)) (does.1 (first device) earlier ran),
      ),
    )

within : (p new : Now) (line : Line) (a b : Option (List ℕ)) (result : Result Unit End)
    → Handled (DoesLine p line new) a b result → Handled (DoesText (Some p) (Some line) (Some new)) a b result
within p new line a b (Ok u) (exchanges, printed, does, adds) =
    (exchanges, printed, line_does p new line (Some printed) exchanges does, adds)
within p new line a b (Err ends.BadLine) (exchanges, does, adds) = (exchanges, line_does p new line None exchanges does, adds)
within p new line a b (Err ends.Memory) handled = tt
within p new line a b (Err ends.Io) handled = tt

pub handled_text : (p new : Now) (now : Option Now) (line : Line) (spelled : Option Line) (a b : Option (List ℕ))
    (result : Result Unit End) → now ≡ Some p → spelled ≡ Some line → Handled (DoesLine p line new) a b result
    → Handled (DoesText now spelled (Some new)) a b result
handled_text p new now line spelled a b result begun is handled =
    subst (λ l. Handled (DoesText now l (Some new)) a b result) (sym is)
    (subst (λ n. Handled (DoesText n (Some line) (Some new)) a b result) (sym begun) (within p new line a b result handled))

-- the line that begins the run
pub begins : (p : Now) (now : Option Now) (spelled : Option Line) (family : TreeFamily) (seed : ℕ) (device : DeviceState Lcg)
    → now ≡ None → spelled ≡ Some (New family seed) → p.progress ≡ new_progress family seed device.storage.config
    → p.session ≡ record { parts = Some (device, script_cache); store = None } → IsNew (seeded_by seed) device
    → DoesText now spelled (Some p) (Some (reported (codes "new"))) []
begins p now spelled family seed device none is made session new =
    let first : SessionState Lcg = record { parts = Some (device, script_cache); store = None } in
    let none_yet : HasRun p.progress.family first [] first = record {
      paged = refl;
      set = λ before is. is;
      runs = runs_none (script_machine p.progress.family) script_format first (closed_sound script_format first.parts);
    } in
    let ran : HasRun p.progress.family first [] p.session = subst (HasRun p.progress.family first []) (sym session) none_yet in
    let kept : IsNew (seeded_by p.progress.seed) device =
    subst (λ s. IsNew (seeded_by s) device) (sym (ap (λ (q : Progress). q.seed) made)) new in
    subst (λ l. DoesText now l (Some p) (Some (reported (codes "new"))) []) (sym is)
    (subst (λ n. DoesText n (Some (New family seed)) (Some p) (Some (reported (codes "new"))) []) (sym none) (
      (refl, refl, (device.storage.config, new.settings, ap Some made)),
      λ earlier nothing. (
        device,
        kept,
        subst (λ e. HasRun p.progress.family first (e ++ []) p.session) (sym nothing) ran,
      ),
    ))

-- ---- a run so far

abbrev pub lines_left : Option (List ℕ) → List (List ℕ)
lines_left None = []
lines_left (Some text) = lines_of text

abbrev pub text_of : Option (Bor (List ℕ)) → Option (List ℕ)
text_of left = option_map (λ t. t.now) left

-- how much is left
abbrev pub size_of : Option (List ℕ) → ℕ
size_of None = 0
size_of (Some text) = length text + 1

-- what has been asked and printed of a run so far, and where it stands
pub record Sofar (before : List (List ℕ)) (a b : Option (List ℕ)) (now : Option Now) : Type 0 where
  pub asked : List Exchange
  pub said : List ℕ
  pub printed : Appends a b said
  pub taken : HasTaken None before asked said (kept_in now)
  pub running : IsRunning asked now

-- the lines that were taken, how many they are, and what is left
pub record Taken (script : List ℕ) (left : Option (List ℕ)) (number : ℕ) (a b : Option (List ℕ))
    (now : Option Now) : Type 0 where
  pub before : List (List ℕ)
  pub lines : lines_of script ≡ before ++ lines_left left
  pub count : number ≡ length before
  pub sofar : Sofar before a b now

pub taken_none : (script : List ℕ) (a : Option (List ℕ)) → Taken script (Some script) 0 a a None
taken_none script a = record {
  before = [];
  lines = refl;
  count = refl;
  sofar = record { asked = []; said = []; printed = Appends-nil a; taken = (refl, refl, refl); running = refl };
}

-- what is left after a line
left_after : (text line : List ℕ) (rest : Option (Bor (List ℕ)))
    → MatchOption rest (lines_of text ≡ line ∷ []) (λ r. lines_of text ≡ line ∷ lines_of r.now)
    → lines_of text ≡ line ∷ lines_left (text_of rest)
left_after text line None cut = cut
left_after text line (Some r) cut = cut

pub taken_next : (script text line : List ℕ) (rest : Option (Bor (List ℕ))) (number : ℕ)
    (a b c : Option (List ℕ)) (now next : Option Now) (result : Result Unit End)
    → Taken script (Some text) number a b now
    → MatchOption rest (lines_of text ≡ line ∷ []) (λ r. lines_of text ≡ line ∷ lines_of r.now)
    → Handled (DoesText now (line_of line) next) b c result → ((e : End) → result ≡ Err e → ⊥)
    → Taken script (text_of rest) (number + 1) a c next
taken_next script text line rest number a b c now next (Ok u) taken cut (asks, printed, does, adds) ok =
    let sofar = taken.sofar in
    record {
      before = taken.before ++ line ∷ [];
      lines = taken.lines ∙ ap (λ l. taken.before ++ l) (left_after text line rest cut)
          ∙ sym (append_assoc taken.before (line ∷ []) (lines_left (text_of rest)));
      count = ap (λ n. n + 1) taken.count ∙ sym (length-append taken.before (line ∷ []));
      sofar = record {
        asked = sofar.asked ++ asks;
        said = sofar.said ++ printed;
        printed = Appends-trans a b c sofar.said printed sofar.printed adds;
        taken = taken_more None taken.before line sofar.asked asks sofar.said printed (kept_in now)
            (kept_in next) sofar.taken does.0;
        running = does.1 sofar.asked sofar.running;
      };
    }
taken_next script text line rest number a b c now next (Err e) taken cut does ok = absurd (ok e refl)

-- there are few lines
pub few_taken : (script text : List ℕ) (number : ℕ) (a b : Option (List ℕ)) (now : Option Now)
    → length script ≤ 2 ^ 24
    → Taken script (Some text) number a b now → number ≤ 2 ^ 24 + 1
few_taken script text number a b now few taken =
    let all = few_lines script in
    let sum = ap length taken.lines ∙ length-append taken.before (lines_of text) in
    omega (arith, all, sum, taken.count)

-- what is left gets less
pub smaller : (text : List ℕ) (rest : Option (Bor (List ℕ))) → IfSome rest (λ r. length r.now < length text)
    → size_of (text_of rest) < length text + 1
smaller text None less = omega arith
smaller text (Some r) less = omega arith

-- whose device it is at the end
abbrev pub Leaves : Option Now → Option (DeviceState Lcg) → Type 0
Leaves now device = (exchanges : List Exchange) → IsRunning exchanges now
    → IsRunOf (kept_in now) device exchanges

-- no line is left
pub taken_all : (script : List ℕ) (number : ℕ) (a b : Option (List ℕ)) (now : Option Now)
    (device : Option (DeviceState Lcg))
    → Taken script None number a b now → Leaves now device → Prints a b (Ends script device)
taken_all script number a b now device taken leaves =
    let sofar = taken.sofar in (
      sofar.said,
      sofar.printed,
      (
        sofar.asked,
        kept_in now,
        subst (λ (l : List (List ℕ)). HasTaken None l sofar.asked sofar.said (kept_in now))
            (sym (append-nil taken.before) ∙ sym taken.lines) sofar.taken,
        leaves sofar.asked sofar.running,
      ),
    )

-- the next line is out of place
pub stops : (script text line : List ℕ) (rest : Option (Bor (List ℕ))) (number : ℕ)
    (a b c d : Option (List ℕ)) (now next : Option Now) (device : Option (DeviceState Lcg))
    → Taken script (Some text) number a b now
    → MatchOption rest (lines_of text ≡ line ∷ []) (λ r. lines_of text ≡ line ∷ lines_of r.now)
    → Handled (DoesText now (line_of line) next) b c (Err ends.BadLine)
    → Appends c d (reported (codes "bad line " ++ decimal (number + 1))) → Leaves next device
    → Prints a d (Stops script device)
stops script text line rest number a b c d now next device taken cut (asks, does, quiet) told leaves =
    let said = reported (codes "bad line " ++ decimal (number + 1)) in
    let sofar = taken.sofar in (
      sofar.said ++ said,
      Appends-trans a b d sofar.said said sofar.printed (Appends-trans b c d [] said quiet told),
      (
        sofar.asked ++ asks,
        kept_in next,
        record {
          before = taken.before;
          text = line;
          later = lines_left (text_of rest);
          now = kept_in now;
          earlier = sofar.asked;
          here = asks;
          said = sofar.said;
          lines = taken.lines ∙ ap (λ l. taken.before ++ l) (left_after text line rest cut);
          taken = sofar.taken;
          bad = does.0;
          whole = refl;
          is = ap (λ (n : ℕ). sofar.said ++ reported (codes "bad line " ++ decimal (n + 1))) taken.count;
        },
        leaves (sofar.asked ++ asks) (does.1 sofar.asked sofar.running),
      ),
    )

ended_bad : (result : ℕ) (Said : Type 0) → (result ≡ 1) ⊎ ((result ≡ 2) × Said)
    → (result ≡ 0 → ⊥) × (result ≡ 2 → (ends.BadLine ≡ ends.BadLine) × Said) × (result ≤ 3)
ended_bad result Said (inl one) = (λ h. omega arith, λ h. absurd (omega arith), omega arith)
ended_bad result Said (inr (two, said)) = (λ h. omega arith, λ h. (refl, said), omega arith)

-- how a run ends at a line
pub ended : (end : End) (result : ℕ) (Said : Type 0) → (end ≡ ends.Memory → result ≡ 3) → (end ≡ ends.Io → result ≡ 1)
    → (end ≡ ends.BadLine → (result ≡ 1) ⊎ ((result ≡ 2) × Said))
    → (result ≡ 0 → ⊥) × (result ≡ 2 → (end ≡ ends.BadLine) × Said) × (result ≤ 3)
ended ends.Memory result Said memory io bad = let three = memory refl in
    (λ h. omega arith, λ h. absurd (omega arith), omega arith)
ended ends.Io result Said memory io bad = let one = io refl in
    (λ h. omega arith, λ h. absurd (omega arith), omega arith)
ended ends.BadLine result Said memory io bad = ended_bad result Said (bad refl)
