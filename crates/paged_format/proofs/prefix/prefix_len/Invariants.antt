use Rattle.std.proofs.Common.{◌≡◌, length, ◌+◌, ◌≤◌}
use Rattle.paged_format.specs.Pages.{recovered}
use Rattle.paged_format.proofs.prefix.prefix_len.Given as goal

abbrev pub invariant-loop-rest : goal.invariant-loop-rest
invariant-loop-rest g l = record {
  known : length (recovered g.C.Checksum.checksum_of l.physical_page_size l.fn.pages)
      ≡ l.len + length (recovered g.C.Checksum.checksum_of l.physical_page_size l.rest);
  fits : l.len + length l.rest ≤ length l.fn.pages;
}

abbrev pub decreases-loop-rest : goal.decreases-loop-rest
decreases-loop-rest g l = length l.rest
