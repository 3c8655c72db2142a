use Rattle.std.proofs.Common.{◌≡◌, ◌++◌, List, ℕ, Ok, sym, ap, ◌∙◌, arith}
use Rattle.std.proofs.lemmas.List.{length-map}
use Rattle.merkle_forest.specs.Codec.{Outcome}
use Rattle.state_theory.specs.Encoded.{range_proof_encoding, after_range_proof}
use Rattle.state_theory.specs.Laws.Encoded.{Grammar, grammar_of, range_again, range_within}
use Rattle.state_proofs.specs.Laws.Reading.{range_fits}
use Rattle.state_theory.specs.Laws.Showing.{refuses_none}
use Rattle.state_proofs.specs.ProofsCode.{range_parts_of}
use Rattle.state_theory.specs.Verified.{RangeParts}
use Rattle.auth_store_client.proofs.ShownRanges.{rest_is}
use Rattle.auth_store_client.proofs.range.read_proof.Goals as goal

pub returns-in-Ok : goal.returns-in-Ok
returns-in-Ok g c =
    let digest : List ℕ → Outcome = g.D.Read.after tt in
    let held : List ℕ → Outcome = g.F.PendingOf.pending_after in
    let grammar : Grammar digest held g.F.PendingOf.is_pending g.F.PendingOf.pending_encoding g.D.FixedSize.SIZE = grammar_of
    g.met.D.Digest.any_bytes g.met.F.PendingOf.pending_again g.met.F.PendingOf.pending_once in
    let proof : RangeParts = range_parts_of g.D.Write.encoding g.F.PendingOf.held c.in-Ok.proof in
    let front : List ℕ = range_proof_encoding g.F.PendingOf.pending_encoding proof in
    let new : List ℕ = c.read_cfg.new.cursor in
    let after : List ℕ → Outcome = after_range_proof digest held 244 in
    let is : c.args.bytes.now ≡ front ++ new = sym c.new-cursor.ensures ∙ c.in-Ok.ensures.read.1 in
    let read : after (front ++ new) ≡ Ok new = ap after (sym is ∙ sym c.new-cursor.ensures) ∙ c.in-Ok.ensures.read.0 in
    let value = c.in-Ok.ensures.value in
    let count = length-map c.in-Ok.proof.proof.digests.items g.D.Write.encoding in
    let within = range_within digest held g.F.PendingOf.is_pending g.F.PendingOf.pending_encoding g.D.FixedSize.SIZE 244 grammar proof new new
    value.0.0 value.0.1 (omega (arith, count, value.0.2.0)) read in (
      range_fits g.D.Write.encoding g.D.Write.is_value g.D.FixedSize.SIZE g.met.D.FixedSize.sized g.F.PendingOf.held
          g.F.Pending.Write.is_value g.F.PendingOf.is_pending g.met.F.PendingOf.pending_value 244 c.in-Ok.proof value
          (within.0, omega (arith, count, within.1)),
      is ∙ ap (λ rest. front ++ rest) (sym (rest_is c.args.bytes.now front new c.remaining.result is c.remaining.ensures)),
    )

pub returns-in_ok-unread-in-Err : goal.returns-in_ok-unread-in-Err
returns-in_ok-unread-in-Err g c proof rest fits is =
    let digest : List ℕ → Outcome = g.D.Read.after tt in
    let held : List ℕ → Outcome = g.F.PendingOf.pending_after in
    let grammar : Grammar digest held g.F.PendingOf.is_pending g.F.PendingOf.pending_encoding g.D.FixedSize.SIZE = grammar_of
    g.met.D.Digest.any_bytes g.met.F.PendingOf.pending_again g.met.F.PendingOf.pending_once in
    let after : List ℕ → Outcome = after_range_proof digest held 244 in
    let read : after c.args.bytes.now ≡ Ok rest = ap after is
    ∙ range_again digest held g.F.PendingOf.is_pending g.F.PendingOf.pending_encoding g.D.FixedSize.SIZE 244 grammar proof rest
    (omega (arith, fits.few)) fits in
    (c.in_ok-unread-in-Err.ensures).ok (refuses_none _ c.in-Err.e _ rest (ap after c.new-cursor.ensures ∙ read) c.in-Err.ensures.read)
