-- What each step makes of a view.
use Rattle.std.specs.Prelude.{ℕ, ◌+◌, max, nat_le, true, false, cond, List, [], ◌∷◌, ◌++◌, length, Option, Some, None}
use Rattle.kernel_values.specs.declared.entry.Entry.{Entry}
use Rattle.kernel_values.specs.Origin.{Origin}
use Rattle.turnstile.specs.declared.view.View.{View}
use Rattle.turnstile.specs.Numbers.{below, merged}
use Rattle.turnstile.specs.Nowhere.{nowhere}

-- the first pass over a value with this history: it has number 0, and every place so far is its own
abbrev pub first_view : List Entry → Origin → ℕ → View
first_view history origin seats = record {
  seen = history;
  known = length history;
  mine = below (length history);
  tries = 0;
  last = 0;
  number = Some 0;
  turns = 0;
  drawn = 1;
  joined = [];
  olds = [];
  loaded = false;
  origin = origin;
  seats = seats;
  has_turn = false;
  opens = false;
  spent = false;
}

-- it found the turn free and took it
abbrev pub won : View → View
won v = record v { has_turn = true; turns = v.turns + 1; loaded = false }

-- it found the turn held, by this word
abbrev pub tried : View → ℕ → View
tried v word = record v { tries = v.tries + 1; last = word }

-- it found the turn held so many times in all, the last time by this word
abbrev pub waited : View → ℕ → ℕ → View
waited v tries last = record v { tries = tries; last = last }

-- it took the slot, whose value has this history
abbrev pub fetched : View → List Entry → View
fetched v history = record v { seen = history; known = length history; loaded = true; opens = true }

-- it put the empty slot back, and took it again
abbrev pub shut : View → View
shut v = record v { opens = false }

abbrev pub opened : View → View
opened v = record v { opens = true }

-- it has the turn and the value, whose history is this one
abbrev pub entered : View → List Entry → View
entered v history = shut (fetched (won v) history)

-- it counted the entry that it added, at the end of this history
abbrev pub added : View → List Entry → View
added v history = record v { seen = history; known = length history; mine = v.mine ++ length v.seen ∷ [] }

-- it gave the turn back, and the slot with it
abbrev pub left : View → View
left v = record v { has_turn = false; loaded = false; opens = false }

-- it read the number of entries
abbrev pub counted : View → ℕ → View
counted v known = record v { known = known }

-- a new view beside this one: it has seen as much, and done nothing
abbrev pub child : View → View
child v = record {
  seen = v.seen;
  known = v.known;
  mine = [];
  tries = 0;
  last = 0;
  number = None;
  turns = 0;
  drawn = v.drawn;
  joined = [];
  olds = [];
  loaded = false;
  origin = v.origin;
  seats = v.seats;
  has_turn = false;
  opens = false;
  spent = false;
}

-- it drew the number n
abbrev pub drew : View → ℕ → View
drew v n = record v { number = Some n; drawn = n + 1 }

-- it found that n numbers were drawn
abbrev pub missed : View → ℕ → View
missed v n = record v { drawn = n }

-- every number that a view has: its own, and those of the views joined into it
abbrev pub own_number : Option ℕ → List ℕ
own_number None = []
own_number (Some n) = n ∷ []

abbrev pub numbers : View → List ℕ
numbers v = own_number v.number ++ v.joined

-- of two beginnings of one history, the longer
abbrev pub longer : List Entry → List Entry → List Entry
longer a b = cond (nat_le (length b) (length a)) a b

-- both views in one: it has seen the longer history, and has the places and the numbers of both
abbrev pub both : View → View → View
both v w = record v {
  seen = longer v.seen w.seen;
  known = max v.known w.known;
  mine = merged v.mine w.mine;
  drawn = max v.drawn w.drawn;
  joined = v.joined ++ numbers w;
  olds = v.olds ++ (v.seen ∷ w.seen ∷ w.olds);
}

-- the view of a pass that was joined into another
abbrev pub given_up : View
given_up = record {
  seen = [];
  known = 0;
  mine = [];
  tries = 0;
  last = 0;
  number = None;
  turns = 0;
  drawn = 0;
  joined = [];
  olds = [];
  loaded = false;
  origin = nowhere;
  seats = 0;
  has_turn = false;
  opens = false;
  spent = true;
}

-- it found that every number was drawn, and took back the new view that it had made
abbrev pub found_none : View → View
found_none v = record v { drawn = v.seats; olds = v.olds ++ (v.seen ∷ v.seen ∷ []) }
