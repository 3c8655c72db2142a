use Rattle.std.proofs.Common.{rules, arith, ◌≡◌, ◌+◌, ◌*◌, ◌<◌, ◌∷◌, ◌++◌, List}
use Rattle.std.proofs.Common.{ℕ, [], length, get_or, sym, subst, ap, ◌∙◌, append_assoc, length-append}
use Rattle.std.proofs.lemmas.List.{get_or_append_left, get_or-append_right}
use Rattle.std.proofs.lemmas.List.Elements.{All-push}
use Rattle.auth_store_device.specs.declared.blocks.Part.{Part}
use Rattle.auth_store_device.specs.BlocksCode.{bytes_in, image_in, piece_bytes, IsPartWithin}
use Rattle.auth_store_device.proofs.Helds.{bytes-of, cut-push, gains-both, image-push, image-stays, image-there, length-part, AreWhole}
use Rattle.auth_store_device.proofs.blocks.Blocks.put_image.Goals as goal

-- a byte of a piece that is cut from the rest
piece-byte : (first piece behind all : List ℕ) (place i : ℕ) → first ++ (piece ++ behind) ≡ all → length first ≡ place → i < length piece
    → get_or piece i 0 ≡ get_or all (place + i) 0
piece-byte first piece behind all place i is long below =
    sym (get_or_append_left piece behind 0 i below)
    ∙ ap (λ n. get_or (piece ++ behind) n 0) (omega arith)
    ∙ sym (get_or-append_right first (piece ++ behind) place (place + i) 0 long (omega arith))
    ∙ ap (λ l. get_or l (place + i) 0) is

pub put_piece-requires-clause-known : goal.put_piece-requires-clause-known
put_piece-requires-clause-known c = λ outside i below.
    let held = c.loop-rest.self in
    let piece = c.split_at.result.0.now in
    let behind = c.split_at.result.1.now in
    let first = image_in held.blocks c.loop-rest.parts.items in
    let some : 0 < length c.loop-rest.rest.now = search rules in
    let cut : piece ++ behind ≡ c.loop-rest.rest.now = search rules in
    let all : first ++ (piece ++ behind) ≡ c.args.bytes.now = ap (λ l. first ++ l) cut ∙ c.loop-rest.invariant.bytes in
    let at : length c.loop-rest.parts.items * piece_bytes + length c.loop-rest.rest.now ≡ length c.args.bytes.now = c.loop-rest.invariant.place some in
    let count : c.len.result ≡ length c.loop-rest.parts.items = search rules in
    let place = c.len.result * piece_bytes in
    let long : length first ≡ place =
    omega (arith, at, count, ap length c.loop-rest.invariant.bytes, length-append first c.loop-rest.rest.now) in
    let fits : place + i < length c.args.bytes.now = omega (arith, at, count, below, ap length cut, length-append piece behind) in
    let out = c.is_outside-is_known.ensures outside (place + i) (omega (arith, at, count)) (omega (arith, at, count, below)) in
    piece-byte first piece behind c.args.bytes.now place i all long below
    ∙ c.requires.untouched (place + i) fits out
    ∙ ap (λ l. get_or l (place + i) 0) (sym (image-there c.args.self.now held c.args.base c.loop-rest.invariant.gains c.requires.base).0)

pub returns-in_err-part-clause-gains : goal.returns-in_err-part-clause-gains
returns-in_err-part-clause-gains c =
    gains-both c.args.self.now c.loop-rest.self c.put_piece.new.self c.loop-rest.invariant.gains c.put_piece.ensures.gains

pub returns-in_err-push-clause-gains : goal.returns-in_err-push-clause-gains
returns-in_err-push-clause-gains c =
    gains-both c.args.self.now c.loop-rest.self c.put_piece.new.self c.loop-rest.invariant.gains c.put_piece.ensures.gains

pub loop-rest-preserved : goal.loop-rest-preserved
loop-rest-preserved c =
    let held = c.loop-rest.self in
    let later = c.put_piece.new.self in
    let parts = c.loop-rest.parts.items in
    let part = c.in_ok-part.part in
    let piece = c.split_at.result.0.now in
    let others = c.split_at.result.1.now in
    let some : 0 < length c.loop-rest.rest.now = search rules in
    let stay = image-stays held.blocks later.blocks parts (bytes-of held later c.put_piece.ensures.gains) c.loop-rest.invariant.within in
    let pushed : c.push.new.self.items ≡ parts ++ part ∷ [] = search rules in
    let these : bytes_in later.blocks part ≡ piece = search rules in
    let there : IsPartWithin later.blocks part = search rules in
    let many : part.count ≡ length piece = sym (length-part later.blocks part there) ∙ ap length these in
    let cut : piece ++ others ≡ c.loop-rest.rest.now = search rules in
    let sizes = length-append piece others in
    let front : length piece ≡ c.min.result = search rules in
    let at = c.loop-rest.invariant.place some in
    let all = image_in held.blocks parts in
    record {
      gains = gains-both c.args.self.now held later c.loop-rest.invariant.gains c.put_piece.ensures.gains;
      within = search (rules, All-push (IsPartWithin later.blocks) parts part stay.1 there);
      cut = search (rules, cut-push parts part (c.loop-rest.invariant.whole some));
      whole = λ more.
          let full : part.count ≡ piece_bytes = omega (arith, more, many, front, sizes, ap length cut, c.min.ensures) in
          subst AreWhole (sym pushed) (All-push (λ (p : Part). p.count ≡ piece_bytes) parts part (c.loop-rest.invariant.whole some) full);
      place = λ more.
          omega (arith, more, at, front, sizes, ap length cut, c.min.ensures, ap length pushed, length-append parts (part ∷ []));
      bytes = ap (λ l. image_in later.blocks l ++ others) pushed ∙ ap (λ l. l ++ others) (image-push later.blocks parts part)
          ∙ ap (λ l. (l ++ bytes_in later.blocks part) ++ others) stay.0 ∙ ap (λ l. (all ++ l) ++ others) these
          ∙ append_assoc all piece others ∙ ap (λ l. all ++ l) cut ∙ c.loop-rest.invariant.bytes;
    }

pub returns-clause-gains : goal.returns-clause-gains
returns-clause-gains c =
    gains-both c.args.self.now c.loop-rest.self c.note_image.new.self c.loop-rest.invariant.gains c.note_image.ensures.gains
