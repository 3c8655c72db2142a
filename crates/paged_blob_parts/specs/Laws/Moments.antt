-- How the moments go on, call by call.
use Rattle.std.proofs.Common.{◌≡◌, ℕ, Bool, true, false, List, [], ◌∷◌, Result, Ok, Err, sym, subst}
use Rattle.paged_blob_parts.specs.Calls.{Call, synced}
use Rattle.paged_blob_parts.specs.Moments.{Through, here, then}
use Rattle.paged_blob_parts.specs.Answers.{Records, RecordsSync, MakesDurable}
use Rattle.paged_blob_parts.specs.declared.error.Error.{Error}
use Rattle.paged_blob_parts.specs.declared.error.Error.TheVariants.{Injected, BlobMissing, BlobInsufficientLength}
use Rattle.paged_blob_parts.specs.declared.error.Error.TheVariants.{NumberEnded, Memory, PowerCut, ChecksumMismatch}

-- nothing was recorded
stays : (P : List Call → Type 0) (old mid new : List Call) → Through P old mid → new ≡ mid → Through P old new
stays P old mid new so_far is = subst (Through P old) (sym is) so_far

-- one write or resize more, whatever it answers
pub goes_on : {T : Type 0} (P : List Call → Type 0) (old mid new : List Call) (result : Result T Error)
    (call : Bool → Call)
    → Through P old mid → Records result call mid new → ((ok : Bool) → P (call ok ∷ mid)) → Through P old new
goes_on P old mid new (Ok _) call so_far is now = subst (Through P old) (sym is) (then (call true) so_far (now true))
goes_on P old mid new (Err (Injected kind)) call so_far is now =
    subst (Through P old) (sym is) (then (call false) so_far (now false))
goes_on P old mid new (Err BlobMissing) call so_far is now = stays P old mid new so_far is
goes_on P old mid new (Err BlobInsufficientLength) call so_far is now = stays P old mid new so_far is
goes_on P old mid new (Err NumberEnded) call so_far is now = stays P old mid new so_far is
goes_on P old mid new (Err Memory) call so_far is now = stays P old mid new so_far is
goes_on P old mid new (Err PowerCut) call so_far is now = stays P old mid new so_far is
goes_on P old mid new (Err ChecksumMismatch) call so_far is now = stays P old mid new so_far is

-- one sync more
pub goes_on_sync : {T : Type 0} (P : List Call → Type 0) (old mid new : List Call) (result : Result T Error)
    → Through P old mid → RecordsSync result mid new
    → ((bytes : List ℕ) → MakesDurable mid bytes → P (synced bytes true ∷ mid))
    → P (synced [] false ∷ mid) → Through P old new
goes_on_sync P old mid new (Ok _) so_far (bytes, durable, is) settled failed =
    subst (Through P old) (sym is) (then (synced bytes true) so_far (settled bytes durable))
goes_on_sync P old mid new (Err (Injected kind)) so_far is settled failed =
    subst (Through P old) (sym is) (then (synced [] false) so_far failed)
goes_on_sync P old mid new (Err BlobMissing) so_far is settled failed = stays P old mid new so_far is
goes_on_sync P old mid new (Err BlobInsufficientLength) so_far is settled failed = stays P old mid new so_far is
goes_on_sync P old mid new (Err NumberEnded) so_far is settled failed = stays P old mid new so_far is
goes_on_sync P old mid new (Err Memory) so_far is settled failed = stays P old mid new so_far is
goes_on_sync P old mid new (Err PowerCut) so_far is settled failed = stays P old mid new so_far is
goes_on_sync P old mid new (Err ChecksumMismatch) so_far is settled failed = stays P old mid new so_far is

-- the last moment is one of them
pub at_end : {P : List Call → Type 0} {old new : List Call} → Through P old new → P new
at_end (here p) = p
at_end (then call so_far p) = p

-- and the first
pub at_start : {P : List Call → Type 0} {old new : List Call} → Through P old new → P old
at_start (here p) = p
at_start (then call so_far p) = at_start so_far

-- two runs, one after the other
pub joined : {P : List Call → Type 0} {old mid new : List Call} → Through P old mid
    → Through P mid new → Through P old new
joined first (here p) = first
joined first (then call so_far p) = then call (joined first so_far) p

pub weaker : {P Q : List Call → Type 0} {old new : List Call} → ((calls : List Call) → P calls → Q calls)
    → Through P old new → Through Q old new
weaker f (here p) = here (f _ p)
weaker f (then call so_far p) = then call (weaker f so_far) (f _ p)
