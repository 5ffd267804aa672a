-- The buffer's front is what left the feed.
use Rattle.std.proofs.Common.{◌≡◌, ◌∙◌, ap, sym, drop, take}
use Rattle.outside_io.proofs.Feeds.{feed_taken, feed_ended}
use Rattle.outside_io.proofs.quiet.QuietSourceSource.read.Goals as goal

pub returns-clause-taken : goal.returns-clause-taken
returns-clause-taken c =
    let bytes = c.self.inside.bytes.items in
    let at = c.self.inside.at in
    let count = c.copy_front-count.result in
    let rest : c.split_at.result.1.now ≡ drop at bytes = c.split_at.ensures.back ∙ ap (drop at) c.as_slice.ensures.value in (
      ap (λ feed. feed.left) (sym c.self.view_is) ∙ feed_taken bytes c.copy_front-count.new.buf at count (c.copy_front-count.ensures.front ∙ ap (take count) rest),
      λ none room. feed_ended bytes at count (sym rest ∙ c.copy_front-count.ensures.end none c.self.invariant.1 c.requires),
    )
