use Rattle.std.proofs.Common.{ℕ, List, take, ap}
use Rattle.paged_format.specs.Pages.{recovered}
use Rattle.paged_blob_parts.proofs.read.read_into.Goals as goal

pub read_slice-requires-clause-stand : goal.read_slice-requires-clause-stand
read_slice-requires-clause-stand g c =
    let pages = c.args.pages in
    record {
      whole = c.requires.whole;
      shown = c.requires.shown;
      found = λ live found.
          ap (λ (l : List ℕ). take pages.len (recovered g.C.Checksum.checksum_of pages.physical_page_size l)) (found.content c.requires.sound);
      numbers = c.requires.numbers;
    }

pub read_slice-requires-clause-kept : goal.read_slice-requires-clause-kept
read_slice-requires-clause-kept g c = (c.args.tip.now, c.requires.kept)

pub returns-clause-kept : goal.returns-clause-kept
returns-clause-kept g c = c.read_slice.ensures.kept c.args.tip.now c.requires.kept
