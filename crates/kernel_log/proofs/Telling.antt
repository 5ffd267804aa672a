-- The numbers of an end's messages, one entry further; and a story told in its three lists.
use Rattle.std.proofs.Common.{◌≡◌, ℕ, ◌+◌, ◌<◌, List, [], ◌∷◌, ◌++◌, take, ap, sym, subst, refl, ◌∙◌, Some, None, get_or, length, append-nil}
use Rattle.std.proofs.lemmas.List.{take_more}
use Rattle.std.proofs.lemmas.List.Elements.{filter_map-append}
use Rattle.kernel_values.specs.declared.entry.Entry.{Entry}
use Rattle.kernel_values.specs.SceneLaw.{SceneValue}
use Rattle.kernel_types.specs.History.{Legal}
use Rattle.kernel_types.specs.Opening.{opening}
use Rattle.kernel_types.specs.Stories.{IsInOrder, Story, story_of, number_at}
use Rattle.kernel_laws.proofs.Orders.{stories_in_order}
use Rattle.kernel_log.specs.declared.stories.Move.{Move}
use Rattle.kernel_log.specs.declared.stories.Move.TheVariants.{Send, Opening, Retirement}
use Rattle.kernel_log.specs.Moves.{moved, numbers_of}

numbers_more : (which : Move) (end : ℕ) (entries : List Entry) (n : ℕ) (entry : Entry) → n < length entries → entry ≡ get_or entries n entry
    → numbers_of which end (take (n + 1) entries) ≡ numbers_of which end (take n entries) ++ numbers_of which end (entry ∷ [])
numbers_more which end entries n entry below is =
    ap (λ es. numbers_of which end es) (take_more entries n entry below ∙ ap (λ e. take n entries ++ e ∷ []) (sym is))
    ∙ filter_map-append (λ e. number_at end (moved which e.seqs)) (take n entries) (entry ∷ [])

pub numbers_one : (which : Move) (end : ℕ) (entries : List Entry) (n : ℕ) (entry : Entry) (number : ℕ) → n < length entries → entry ≡ get_or entries n entry
    → number_at end (moved which entry.seqs) ≡ Some number
    → numbers_of which end (take (n + 1) entries) ≡ numbers_of which end (take n entries) ++ number ∷ []
numbers_one which end entries n entry number below is found =
    numbers_more which end entries n entry below is ∙ ap (λ ns. numbers_of which end (take n entries) ++ ns) (rw found refl)

pub numbers_same : (which : Move) (end : ℕ) (entries : List Entry) (n : ℕ) (entry : Entry) → n < length entries → entry ≡ get_or entries n entry
    → number_at end (moved which entry.seqs) ≡ None
    → numbers_of which end (take (n + 1) entries) ≡ numbers_of which end (take n entries)
numbers_same which end entries n entry below is none_there =
    numbers_more which end entries n entry below is ∙ ap (λ ns. numbers_of which end (take n entries) ++ ns) (rw none_there refl) ∙ append-nil _

pub story_is : (entries : List Entry) (end : ℕ) (sent opened retired : List ℕ) → sent ≡ numbers_of Send end entries → opened ≡ numbers_of Opening end entries
    → retired ≡ numbers_of Retirement end entries → record { sent = sent; opened = opened; retired = retired } ≡ story_of entries end
unfolding story_of
story_is entries end sent opened retired sent_is opened_is retired_is = rw (sent_is, opened_is, retired_is) refl

pub story_in_order : (entries : List Entry) (end : ℕ) (sent opened retired : List ℕ) → sent ≡ numbers_of Send end entries → opened ≡ numbers_of Opening end entries
    → retired ≡ numbers_of Retirement end entries → (scene : SceneValue) → Legal (opening scene) entries
    → IsInOrder (record { sent = sent; opened = opened; retired = retired })
story_in_order entries end sent opened retired sent_is opened_is retired_is scene legal =
    subst (λ (story : Story). IsInOrder story) (sym (story_is entries end sent opened retired sent_is opened_is retired_is)) (stories_in_order scene entries end legal)
