use Rattle.std.proofs.Common.{◌≡◌, ◌≤◌, ◌-◌, true, take, map}
use Rattle.paged_blob_parts.specs.Calls.{file_of}
use Rattle.paged_blob_parts.specs.Answers.{AreSlices}
use Rattle.paged_blob_parts.proofs.blob.Blob.read_many.Given as goal

abbrev pub invariant-loop-offset : goal.invariant-loop-offset
invariant-loop-offset g l = record {
  slices : AreSlices (file_of (g.Self.Blob.calls l.fn.self)) (take l.offset-index l.ranges) (map (λ bytes. bytes.items) l.all.items);
  calls : g.Self.Blob.calls l.self ≡ g.Self.Blob.calls l.fn.self;
  failures : g.Self.Blob.failures l.self ≡ g.Self.Blob.failures l.fn.self;
  left : g.Self.Blob.left l.self ≡ g.Self.Blob.left l.fn.self - l.offset-index;
  lasts : (g.Self.Blob.failures l.fn.self).is_asked ≡ true → l.offset-index ≤ g.Self.Blob.left l.fn.self;
}
