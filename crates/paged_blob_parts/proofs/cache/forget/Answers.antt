use Rattle.std.proofs.Common.{rules, not}
use Rattle.std.proofs.lemmas.Fn.{filter_same}
use Rattle.paged_blob_parts.specs.CachesCode.{is_at}
use Rattle.paged_blob_parts.proofs.cache.forget.Goals as goal

pub returns-clause-elsewhere : goal.returns-clause-elsewhere
returns-clause-elsewhere c =
    filter_same _ (λ kept. not (is_at c.args.blob_id c.args.number kept)) _ (λ kept b f called. (search rules, search rules)) c.args.pages.now.items
    c.retain.new.self.items c.retain.ensures.filtered
