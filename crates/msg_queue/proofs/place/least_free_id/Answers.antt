use Rattle.std.proofs.Common.{◌≡◌, ◌-◌, ℕ, true, false, refl, sym, inl, inr, subst, arith}
use Rattle.std.proofs.lemmas.Bool.{cases_eq}
use Rattle.std.specs.List.{list_any}
use Rattle.msg_queue.specs.Messages.{is_opened_as}
use Rattle.msg_queue.specs.Places.{messages_of}
use Rattle.msg_queue.proofs.Searches.{length_of_messages}
use Rattle.msg_queue.proofs.Ids.{free_id_found, free_id_none}
use Rattle.msg_queue.proofs.Places.{some_here, no_any_here}
use Rattle.msg_queue.proofs.place.least_free_id.Goals as goal

pub returns-in_default : goal.returns-in_default
returns-in_default c =
    let ps = c.args.places.now in
    let len = length_of_messages c.args.places.now in
    let within = c.loop-id-test.true in
    free_id_found (messages_of c.args.places.now) c.loop-id.id c.loop-id.auto.id (omega arith) c.loop-id.invariant (no_any_here (is_opened_as c.loop-id.id) c.args.places.now c.args.places.now refl c.in_default.ensures)

pub loop-id-preserved : goal.loop-id-preserved
loop-id-preserved c =
    λ k low high. elim (cases_eq k c.loop-id.id) [
      | inl same ↦
          let P : ℕ → Type 0 = λ n. list_any (is_opened_as n) (messages_of c.args.places.now) ≡ true in
          subst P (sym same) (some_here (is_opened_as c.loop-id.id) c.args.places.now c.args.places.now refl c.in-Some._taken c.in-Some.ensures)
      | inr other ↦ c.loop-id.invariant k low (omega arith)
    ]

pub returns : goal.returns
returns c =
    let len = length_of_messages c.args.places.now in
    let past = c.loop-id-test.false in
    free_id_none (messages_of c.args.places.now) (λ k low high. c.loop-id.invariant k low (omega arith))
