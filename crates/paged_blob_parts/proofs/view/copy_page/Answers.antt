use Rattle.std.proofs.Common.{rules, IsNone, inl}
use Rattle.paged_blob_parts.proofs.view.copy_page.Goals as goal

pub returns-in_default-clause-none : goal.returns-in_default-clause-none
returns-in_default-clause-none c = λ no.
    let none : IsNone c.page.result = search rules in
    inl (c.page.ensures.none none)
