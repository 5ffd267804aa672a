use Rattle.std.proofs.Common.{◌≡◌, ◌+◌, ◌≤◌, ℕ, true, false, List, Some, None, length, drop, arith, ap, refl}
use Rattle.std.specs.List.{list_any, position_or_len}
use Rattle.std.proofs.lemmas.List.{drop_all}
use Rattle.wait_events.specs.declared.watch.Watch.{Watch}
use Rattle.wait_events.specs.Waits.{told_from}
use Rattle.wait_events.specs.Watches.{is_told}
use Rattle.wait_events.proofs.Tables.{first_rest, none_rest, some_rest}
use Rattle.wait_events.proofs.table.TableWatch.told_from.Goals as goal

none_told : (from : ℕ) (places : List Watch) → list_any is_told (drop from places) ≡ false → None ≡ told_from from places
none_told from places none = rw none refl

first_told : (from at : ℕ) (places : List Watch) → list_any is_told (drop from places) ≡ true → at ≡ position_or_len is_told (drop from places) → Some (from + at) ≡ told_from from places
first_told from at places some is = rw some (ap (λ n. Some (from + n)) is)

pub returns-then-from-ge64 : goal.returns-then-from-ge64
returns-then-from-ge64 c =
    let past : length c.args.self.now ≤ c.args.from = omega (arith, c.sound.ensures, c.if-from-ge64.true) in
    none_told c.args.from c.args.self.now (ap (list_any is_told) (drop_all c.args.from c.args.self.now past))

pub returns-then-rest-eq0 : goal.returns-then-rest-eq0
returns-then-rest-eq0 c = rw (← c.self.view_is) (none_told c.args.from c.self.inside.places.items (none_rest c.self.inside.places.items _ c.args.from c.self.invariant c.if-from-ge64.false c.if-rest-eq0.true))

pub returns : goal.returns
returns c = rw (← c.self.view_is) (first_told c.args.from _ c.self.inside.places.items (some_rest c.self.inside.places.items _ c.args.from c.self.invariant c.if-from-ge64.false c.if-rest-eq0.false) (first_rest c.self.inside.places.items _ c.args.from c.self.invariant c.if-from-ge64.false c.if-rest-eq0.false))
