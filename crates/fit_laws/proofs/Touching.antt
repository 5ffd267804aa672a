-- A change that leaves who is whose peer, the states, and what is pending.
use Rattle.std.proofs.Common.{◌≡◌, ℕ, ◌≤◌, ◌==◌, ◌⊎◌, inl, inr, Bool, true, false, not, List, Option, Some, None, refl, sym, ◌∙◌, ap, subst}
use Rattle.std.specs.List.{count_by}
use Rattle.std.specs.Option.{option_map, is_some}
use Rattle.kernel_values.specs.declared.state.ChannelEnd.{ChannelEnd}
use Rattle.kernel_values.specs.declared.state.Connector.{Connector}
use Rattle.kernel_values.specs.declared.state.EndState.{EndState}
use Rattle.kernel_values.specs.declared.state.Port.{Port}
use Rattle.kernel_types.specs.Messages.{is_unconnected}
use Rattle.kernel_types.specs.Names.{message_objects}
use Rattle.kernel_types.specs.Ports.{is_waiting}
use Rattle.kernel_types.specs.Reach.{is_in}
use Rattle.kernel_types.specs.Sweep.{is_live}
use Rattle.fit_laws.specs.Fitting.{Fits, IsMated, IsServer}

-- what of an end says who it is connected with
pub record Side : Type 0 where
  pub peer : Option ℕ
  pub state : EndState
  pub client : Option Connector

abbrev pub side : ChannelEnd → Side
side end = record { peer = end.peer; state = end.state; client = end.client }

abbrev pub pending_of : Port → List ℕ
pending_of port = port.pending

-- an end that has the same side
pub record Alike (o : Option ChannelEnd) (end : ChannelEnd) : Type 0 where
  pub other : ChannelEnd
  pub is : o ≡ Some other
  pub peer : other.peer ≡ end.peer
  pub state : other.state ≡ end.state
  pub client : other.client ≡ end.client

pub alike : (a b : Option ChannelEnd) (end : ChannelEnd) → option_map side a ≡ option_map side b → b ≡ Some end → Alike a end
alike None b end same is = let bad : None ≡ Some (side end) = same ∙ ap (option_map side) is in absurd (cc)
alike (Some x) b end same is =
    let both : Some (side x) ≡ Some (side end) = same ∙ ap (option_map side) is in
    let eq : side x ≡ side end = cc in
    record { other = x; is = refl; peer = ap (λ (s : Side). s.peer) eq; state = ap (λ (s : Side). s.state) eq; client = ap (λ (s : Side). s.client) eq }

pub record Listed (o : Option Port) (port : Port) : Type 0 where
  pub other : Port
  pub is : o ≡ Some other
  pub same : other.pending ≡ port.pending

pub listed : (a b : Option Port) (port : Port) → option_map pending_of a ≡ option_map pending_of b → b ≡ Some port → Listed a port
listed None b port same is = let bad : None ≡ Some port.pending = same ∙ ap (option_map pending_of) is in absurd (cc)
listed (Some x) b port same is =
    let both : Some x.pending ≡ Some port.pending = same ∙ ap (option_map pending_of) is in
    record { other = x; is = refl; same = cc }

-- a part that was there, or one that comes to a connected end and is a memory reference
pub record WasPart (ends : ℕ → Option ChannelEnd) (n object : ℕ) : Type 0 where
  pub end : ChannelEnd
  pub there : ends n ≡ Some end
  pub names : is_in (message_objects end.messages) object ≡ true

abbrev pub IsPart : (ℕ → Option ChannelEnd) → (ℕ → Bool) → ℕ → ChannelEnd → ℕ → Type 0
IsPart ends memories n end object = WasPart ends n object ⊎ ((is_unconnected end.state ≡ false) × (memories object ≡ true))

module _ (E F : ℕ → Option ChannelEnd) (P Q : ℕ → Option Port) (M N : ℕ → Bool) (next : ℕ) (fit : Fits E P M next)
    (sides : (n : ℕ) → option_map side (F n) ≡ option_map side (E n)) (lists : (n : ℕ) → option_map pending_of (Q n) ≡ option_map pending_of (P n))
    (stay : (n : ℕ) → M n ≡ true → N n ≡ true)
    (came : (n object : ℕ) (end : ChannelEnd) → F n ≡ Some end → is_in (message_objects end.messages) object ≡ true → IsPart E M n end object) where
  was : (n : ℕ) (end : ChannelEnd) → F n ≡ Some end → Alike (E n) end
  was n end is = alike (E n) (F n) end (sym (sides n)) is

  now : (n : ℕ) (end : ChannelEnd) → E n ≡ Some end → Alike (F n) end
  now n end is = alike (F n) (E n) end (sides n) is

  old_port : (n : ℕ) (port : Port) → Q n ≡ Some port → Listed (P n) port
  old_port n port is = listed (P n) (Q n) port (sym (lists n)) is

  live : (n : ℕ) (end : ChannelEnd) → F n ≡ Some end → is_live end.state ≡ true → IsMated F n end
  live n end is l =
      let o : Alike (E n) end = was n end is in
      let m : IsMated E n o.other = fit.live n o.other o.is (ap is_live o.state ∙ l) in
      let q : Alike (F m.number) m.mate = now m.number m.mate m.there in
      record {
        number = m.number;
        mate = q.other;
        is = sym o.peer ∙ m.is;
        there = q.is;
        back = q.peer ∙ m.back;
        state = q.state ∙ (m.state ∙ o.state);
        sides = ap (λ (k : Option Connector). is_some k) q.client ∙ (m.sides ∙ ap (λ (k : Option Connector). not (is_some k)) o.client);
      }

  mates : (n m : ℕ) (end mate : ChannelEnd) → F n ≡ Some end → end.peer ≡ Some m → F m ≡ Some mate → mate.peer ≡ Some n
  mates n m end mate is e there =
      let a : Alike (E n) end = was n end is in
      let b : Alike (E m) mate = was m mate there in
      sym b.peer ∙ fit.mates n m a.other b.other a.is (a.peer ∙ e) b.is

  server : (s : ℕ) → IsServer E s → IsServer F s
  server s k =
      let q : Alike (F s) k.end = now s k.end k.there in
      record { end = q.other; there = q.is; state = q.state ∙ k.state; side = ap (λ (x : Option Connector). is_some x) q.client ∙ k.side }

  quiet : (n object : ℕ) (end : ChannelEnd) → F n ≡ Some end → is_unconnected end.state ≡ true → is_in (message_objects end.messages) object ≡ true → ⊥
  quiet n object end is un names = elim (came n object end is names) [
    | inl w ↦ let o : Alike (E n) end = was n end is in
        let same : Some w.end ≡ Some o.other = sym w.there ∙ o.is in
        let eq : w.end ≡ o.other = cc in
        fit.quiet n object w.end w.there (ap (λ (x : ChannelEnd). is_unconnected x.state) eq ∙ (ap is_unconnected o.state ∙ un)) w.names
    | inr k ↦ let bad : true ≡ false = sym un ∙ k.0 in absurd (cc)
  ]

  parts : (n object : ℕ) (end : ChannelEnd) → F n ≡ Some end → is_in (message_objects end.messages) object ≡ true → N object ≡ true
  parts n object end is names = elim (came n object end is names) [
    | inl w ↦ stay object (fit.parts n object w.end w.there w.names)
    | inr k ↦ stay object k.1
  ]

  pub touched : Fits F Q N next
  touched = record {
    live = live;
    mates = mates;
    alone = λ n end is w. let o : Alike (E n) end = was n end is in sym o.peer ∙ fit.alone n o.other o.is (ap is_waiting o.state ∙ w);
    low = λ n m end is e. let o : Alike (E n) end = was n end is in fit.low n m o.other o.is (o.peer ∙ e);
    quiet = quiet;
    parts = parts;
    pending = λ n s port is lists. let o : Listed (P n) port = old_port n port is in server s (fit.pending n s o.other o.is (ap (λ l. is_in l s) o.same ∙ lists));
    once = λ n m s port other is there lists also. let a : Listed (P n) port = old_port n port is in let b : Listed (P m) other = old_port m other there in
        fit.once n m s a.other b.other a.is b.is (ap (λ l. is_in l s) a.same ∙ lists) (ap (λ l. is_in l s) b.same ∙ also);
    single = λ n s port is. let o : Listed (P n) port = old_port n port is in subst (λ l. count_by (λ other. other == s) l ≤ 1) o.same (fit.single n s o.other o.is);
  }
