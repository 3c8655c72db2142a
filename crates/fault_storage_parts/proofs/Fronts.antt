-- What leaves the first bytes of a file as they are.
use Rattle.std.proofs.Common.{◌≡◌, ◌≤◌, ◌+◌, ◌-◌, ◌++◌, ◌∷◌, [], ℕ, Bool}
use Rattle.std.proofs.Common.{true, false, cond, List, length, take, drop, replicate, refl, ◌∙◌, arith}
use Rattle.std.proofs.lemmas.List.{length-append, length-take-le, take-append-le, take-take}
use Rattle.rand_core.specs.Stream.{Stream}
use Rattle.fault_storage_parts.specs.Files.{
  Mutation,
  written,
  fixed,
  resized_to,
  IsPast,
  ArePast,
  grown,
  resized,
  with_bytes,
  with_kept,
  is_kept,
  applied,
  drawn_choice,
  crashed,
}
use Rattle.fault_storage_parts.proofs.Overlays.{length-grown}

-- the file is as long, and its first bytes are the same
abbrev Keeps : ℕ → List ℕ → List ℕ → Type 0
Keeps size file next = (size ≤ length next) × (take size next ≡ take size file)

cut-keeps : (size at : ℕ) (file rest : List ℕ) → size ≤ at → size ≤ length file → Keeps size file (take at (grown at file) ++ rest)
cut-keeps size at file rest past long =
    let far : length (take at (grown at file)) ≡ at = length-take-le at (grown at file) (omega (arith, length-grown at file)) in (
      omega (arith, length-append (take at (grown at file)) rest, far, past),
      take-append-le size (take at (grown at file)) rest (omega (arith, far, past)) ∙ take-take size at (grown at file) past
          ∙ take-append-le size file (replicate (at - length file) 0) long,
    )

resized-keeps : (size at : ℕ) (file : List ℕ) → size ≤ at → size ≤ length file → Keeps size file (resized at file)
resized-keeps size at file past long =
    let far : length (take at (grown at file)) ≡ at = length-take-le at (grown at file) (omega (arith, length-grown at file)) in
    (omega (arith, far, past), take-take size at (grown at file) past ∙ take-append-le size file (replicate (at - length file) 0) long)

kept-keeps : (size at : ℕ) (bytes : List ℕ) (kept : List Bool) (file : List ℕ) → size ≤ at → size ≤ length file
    → Keeps size file (with_kept at bytes kept file)
kept-keeps size at [] kept file past long = (long, refl)
kept-keeps size at (byte ∷ bytes) [] file past long = (long, refl)
kept-keeps size at (byte ∷ bytes) (true ∷ kept) file past long =
    let here = cut-keeps size at file ((byte ∷ []) ++ drop (at + 1) file) past long in
    let later = kept-keeps size (at + 1) bytes kept (with_bytes at (byte ∷ []) file) (omega (arith, past)) here.0 in
    (later.0, later.1 ∙ here.1)
kept-keeps size at (byte ∷ bytes) (false ∷ kept) file past long = kept-keeps size (at + 1) bytes kept file (omega (arith, past)) long

-- a resize that may not come about
resized-if : (size at : ℕ) (file : List ℕ) (is : Bool) → size ≤ at → size ≤ length file → Keeps size file (cond is (resized at file) file)
resized-if size at file true past long = resized-keeps size at file past long
resized-if size at file false past long = (long, refl)

pub applied-keeps : (size : ℕ) (choice : List Bool) (mutation : Mutation) (file : List ℕ) → IsPast size mutation → size ≤ length file
    → Keeps size file (applied choice mutation file)
applied-keeps size choice (written at bytes mode rate) file past long = kept-keeps size at bytes choice file past long
applied-keeps size choice (fixed at bytes kept) file past long = kept-keeps size at bytes kept file past long
applied-keeps size choice (resized_to at rate) file past long = resized-if size at file (is_kept choice) past long

pub crash-keeps : (size : ℕ) (base : List ℕ) (log : List Mutation) (words : Stream) → size ≤ length base → ArePast size log
    → take size (crashed base log words).0 ≡ take size base
unfolding crashed
crash-keeps size base [] words long past = refl
crash-keeps size base (mutation ∷ later) words long past =
    let here = applied-keeps size (drawn_choice mutation words).0 mutation base past.0 long in
    crash-keeps size (applied (drawn_choice mutation words).0 mutation base) later (drawn_choice mutation words).1 here.0 past.1 ∙ here.1
