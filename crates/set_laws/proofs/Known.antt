-- What names objects, where something is known of each number that is named, and which small changes keep that.
use Rattle.std.proofs.Common.{ℕ, ◌==◌, List, [], ◌∷◌, ◌++◌, map, take, drop, Option, Some, None}
use Rattle.std.specs.Prelude.{slice_get, nat_lt}
use Rattle.std.specs.List.{AllByRecursion, flat_map, position_or_len}
use Rattle.kernel_values.specs.declared.state.Activity.{Activity}
use Rattle.kernel_values.specs.declared.state.Application.{Application}
use Rattle.kernel_values.specs.declared.state.Body.{Body}
use Rattle.kernel_values.specs.declared.state.Body.TheVariants as body
use Rattle.kernel_values.specs.declared.state.ChannelEnd.{ChannelEnd}
use Rattle.kernel_values.specs.declared.state.CoreState.{CoreState}
use Rattle.kernel_values.specs.declared.state.HandleSet.{HandleSet}
use Rattle.kernel_values.specs.declared.state.Member.{Member}
use Rattle.kernel_values.specs.declared.state.MemoryRef.{MemoryRef}
use Rattle.kernel_values.specs.declared.state.Message.{Message}
use Rattle.kernel_values.specs.declared.state.Object.{Object}
use Rattle.kernel_values.specs.declared.state.Port.{Port}
use Rattle.kernel_values.specs.declared.state.TableEntry.{TableEntry}
use Rattle.kernel_values.specs.declared.state.Thread.{Thread}
use Rattle.kernel_types.specs.Names.{Name, activity_names, held_by, named_in, naming, object_names, root, table_names, wait_names}
use Rattle.kernel_types.specs.Objects.{added, as_end, as_port, as_set, changed, end_in, end_of, object_of, on_body, on_end, on_memory, on_port, on_set, place_of, port_in, port_of, set_in, set_of, with_objects}
use Rattle.kernel_types.specs.Tables.{entry_at, free_handle, install, installed, table_changed, table_in, table_of, with_table}
use Rattle.kernel_types.specs.Threads.{activity_changed, with_activity}
use Rattle.kernel_laws.proofs.Within.{all_map_at}
use Rattle.set_laws.proofs.Lists.{IfThere, all_appended, all_dropped, all_first, all_flat, all_get, all_last, all_mapped, all_taken, all_unflat, all_unmapped, all_weaker, found_there}

-- What names objects, by what is known of the numbers.

abbrev pub Knows : (ℕ → Type 0) → List ℕ → Type 0
Knows P xs = AllByRecursion P xs

abbrev pub KnowsNames : (ℕ → Type 0) → List Name → Type 0
KnowsNames P names = AllByRecursion (λ name. P name.object) names

abbrev pub KnowsTable : (ℕ → Type 0) → List TableEntry → Type 0
KnowsTable P table = AllByRecursion (λ entry. P entry.object) table

abbrev pub KnowsMembers : (ℕ → Type 0) → List Member → Type 0
KnowsMembers P members = AllByRecursion (λ member. P member.object) members

abbrev pub KnowsMessages : (ℕ → Type 0) → List Message → Type 0
KnowsMessages P messages = AllByRecursion (λ message. Knows P message.parts) messages

-- what sets and messages name, and what a port keeps
abbrev pub BodyApart : (P Q : ℕ → Type 0) → Body → Type 0
BodyApart P Q (body.Port port) = Knows Q port.pending
BodyApart P Q b = Knows P (named_in b)

-- P is known of every number that tables, waits, sets and messages name, and Q of every one that the bridge or a port keeps
pub record KnownApart (P Q : ℕ → Type 0) (c : CoreState) : Type 0 where
  pub tables : AllByRecursion (λ app. KnowsTable P app.table) c.apps
  pub bridged : Knows Q c.bridged
  pub waits : AllByRecursion (λ thread. KnowsNames P (activity_names thread.activity)) c.threads
  pub objects : AllByRecursion (λ object. BodyApart P Q object.body) c.objects

-- the same is known of both: of every number that the state names
abbrev pub KnowsBody : (ℕ → Type 0) → Body → Type 0
KnowsBody P b = BodyApart P P b

abbrev pub Known : (ℕ → Type 0) → CoreState → Type 0
Known P c = KnownApart P P c

module _ (P : ℕ → Type 0) where
  pub installed_known : (table : List TableEntry) (object : ℕ) → P object → KnowsTable P table → KnowsTable P (installed table object)
  installed_known table object is_known all =
      let E : TableEntry → Type 0 = λ entry. P entry.object in
      let handle : ℕ = free_handle table in
      let at : ℕ = position_or_len (λ e. nat_lt handle e.handle) table in
      all_appended E (take at table) ((record { handle = handle; object = object; cookie = 0 }) ∷ drop at table) (all_taken E at table all) (is_known, all_dropped E at table all)

  names_body : (b : Body) → Knows P (named_in b) → KnowsBody P b
  names_body (body.Port port) is_known = is_known
  names_body (body.End end) is_known = is_known
  names_body (body.Set set) is_known = is_known
  names_body (body.Memory memory) is_known = is_known

  body_names : (b : Body) → KnowsBody P b → Knows P (named_in b)
  body_names (body.Port port) is_known = is_known
  body_names (body.End end) is_known = is_known
  body_names (body.Set set) is_known = is_known
  body_names (body.Memory memory) is_known = is_known

module _ (P Q : ℕ → Type 0) where
  -- What bodies name.

  end_in_known : (b : Body) → BodyApart P Q b → IfThere (λ (end : ChannelEnd). KnowsMessages P end.messages) (end_in b)
  end_in_known (body.Port port) is_known = tt
  end_in_known (body.End end) is_known = all_unflat P (λ (m : Message). m.parts) end.messages is_known
  end_in_known (body.Set set) is_known = tt
  end_in_known (body.Memory memory) is_known = tt

  port_in_known : (b : Body) → BodyApart P Q b → IfThere (λ (port : Port). Knows Q port.pending) (port_in b)
  port_in_known (body.Port port) is_known = is_known
  port_in_known (body.End end) is_known = tt
  port_in_known (body.Set set) is_known = tt
  port_in_known (body.Memory memory) is_known = tt

  set_in_known : (b : Body) → BodyApart P Q b → IfThere (λ (set : HandleSet). KnowsMembers P set.members) (set_in b)
  set_in_known (body.Port port) is_known = tt
  set_in_known (body.End end) is_known = tt
  set_in_known (body.Set set) is_known = all_unmapped P (λ (m : Member). m.object) set.members is_known
  set_in_known (body.Memory memory) is_known = tt

  pub on_port_known : (change : Port → Port) → ((port : Port) → Knows Q port.pending → Knows Q (change port).pending) → (b : Body) → BodyApart P Q b → BodyApart P Q (on_port change b)
  on_port_known change keeps (body.Port port) is_known = keeps port is_known
  on_port_known change keeps (body.End end) is_known = is_known
  on_port_known change keeps (body.Set set) is_known = is_known
  on_port_known change keeps (body.Memory memory) is_known = is_known

  pub on_end_known : (change : ChannelEnd → ChannelEnd) → ((end : ChannelEnd) → KnowsMessages P end.messages → KnowsMessages P (change end).messages)
      → (b : Body) → BodyApart P Q b → BodyApart P Q (on_end change b)
  on_end_known change keeps (body.Port port) is_known = is_known
  on_end_known change keeps (body.End end) is_known =
      let parts : Message → List ℕ = λ m. m.parts in
      all_flat P parts (change end).messages (keeps end (all_unflat P parts end.messages is_known))
  on_end_known change keeps (body.Set set) is_known = is_known
  on_end_known change keeps (body.Memory memory) is_known = is_known

  pub on_set_known : (change : HandleSet → HandleSet) → ((set : HandleSet) → KnowsMembers P set.members → KnowsMembers P (change set).members)
      → (b : Body) → BodyApart P Q b → BodyApart P Q (on_set change b)
  on_set_known change keeps (body.Port port) is_known = is_known
  on_set_known change keeps (body.End end) is_known = is_known
  on_set_known change keeps (body.Set set) is_known =
      all_mapped (λ (m : Member). P m.object) P (λ (m : Member). m.object) (λ m is. is) (change set).members
      (keeps set (all_unmapped P (λ (m : Member). m.object) set.members is_known))
  on_set_known change keeps (body.Memory memory) is_known = is_known

  pub on_memory_known : (change : MemoryRef → MemoryRef) → (b : Body) → BodyApart P Q b → BodyApart P Q (on_memory change b)
  on_memory_known change (body.Port port) is_known = is_known
  on_memory_known change (body.End end) is_known = is_known
  on_memory_known change (body.Set set) is_known = is_known
  on_memory_known change (body.Memory memory) is_known = is_known

module _ (P Q : ℕ → Type 0) (c : CoreState) (k : KnownApart P Q c) where
  -- What is read.

  pub table_known : (app : ℕ) → KnowsTable P (table_of c app)
  table_known app =
      let R : Option Application → Type 0 = λ o. IfThere (λ (a : Application). KnowsTable P a.table) o → KnowsTable P (table_in o) in
      let go : (o : Option Application) → R o = λ o. elim o as (λ v. R v) [ None ↦ (λ is. tt) | Some a ↦ (λ is. is) ] in
      go (slice_get c.apps app) (all_get (λ (a : Application). KnowsTable P a.table) c.apps app k.tables)

  pub entry_known : (app handle : ℕ) → IfThere (λ (entry : TableEntry). P entry.object) (entry_at (table_of c app) handle)
  entry_known app handle = found_there (λ (entry : TableEntry). P entry.object) (λ entry. entry.handle == handle) (table_of c app) (table_known app)

  body_known : (id : ℕ) → IfThere (λ (object : Object). BodyApart P Q object.body) (object_of c.objects id)
  body_known id = all_get (λ (object : Object). BodyApart P Q object.body) c.objects (place_of c.objects id) k.objects

  pub end_known : (id : ℕ) → IfThere (λ (end : ChannelEnd). KnowsMessages P end.messages) (end_of c.objects id)
  end_known id =
      let R : Option Object → Type 0 = λ o. IfThere (λ (object : Object). BodyApart P Q object.body) o → IfThere (λ (end : ChannelEnd). KnowsMessages P end.messages) (as_end o) in
      let go : (o : Option Object) → R o = λ o. elim o as (λ v. R v) [ None ↦ (λ is. tt) | Some object ↦ (λ is. end_in_known P Q object.body is) ] in
      go (object_of c.objects id) (body_known id)

  pub port_known : (id : ℕ) → IfThere (λ (port : Port). Knows Q port.pending) (port_of c.objects id)
  port_known id =
      let R : Option Object → Type 0 = λ o. IfThere (λ (object : Object). BodyApart P Q object.body) o → IfThere (λ (port : Port). Knows Q port.pending) (as_port o) in
      let go : (o : Option Object) → R o = λ o. elim o as (λ v. R v) [ None ↦ (λ is. tt) | Some object ↦ (λ is. port_in_known P Q object.body is) ] in
      go (object_of c.objects id) (body_known id)

  pub set_known : (id : ℕ) → IfThere (λ (set : HandleSet). KnowsMembers P set.members) (set_of c.objects id)
  set_known id =
      let R : Option Object → Type 0 = λ o. IfThere (λ (object : Object). BodyApart P Q object.body) o → IfThere (λ (set : HandleSet). KnowsMembers P set.members) (as_set o) in
      let go : (o : Option Object) → R o = λ o. elim o as (λ v. R v) [ None ↦ (λ is. tt) | Some object ↦ (λ is. set_in_known P Q object.body is) ] in
      go (object_of c.objects id) (body_known id)

  -- What is changed.

  pub tabled : (change : List TableEntry → List TableEntry) → ((table : List TableEntry) → KnowsTable P table → KnowsTable P (change table)) → (app : ℕ) → KnownApart P Q (with_table change app c)
  tabled change keeps app = record {
    tables = all_map_at (λ (a : Application). KnowsTable P a.table) (table_changed change) (λ a is_known. keeps a.table is_known) c.apps app k.tables;
    bridged = k.bridged;
    waits = k.waits;
    objects = k.objects;
  }

  pub installs : (app object : ℕ) → P object → KnownApart P Q (install app object c)
  installs app object is_known = tabled (λ table. installed table object) (λ table all. installed_known P table object is_known all) app

  pub acted : (change : Activity → Activity) → ((a : Activity) → KnowsNames P (activity_names a) → KnowsNames P (activity_names (change a))) → (thread : ℕ) → KnownApart P Q (with_activity change thread c)
  acted change keeps thread = record {
    tables = k.tables;
    bridged = k.bridged;
    waits = all_map_at (λ (t : Thread). KnowsNames P (activity_names t.activity)) (activity_changed change) (λ t is_known. keeps t.activity is_known) c.threads thread k.waits;
    objects = k.objects;
  }

  pub changed_one : (f : Body → Body) → ((b : Body) → BodyApart P Q b → BodyApart P Q (f b)) → (id : ℕ) → KnownApart P Q (with_objects (changed f c.objects id) c)
  changed_one f keeps id = record {
    tables = k.tables;
    bridged = k.bridged;
    waits = k.waits;
    objects = all_map_at (λ (o : Object). BodyApart P Q o.body) (on_body f) (λ o is_known. keeps o.body is_known) c.objects (place_of c.objects id) k.objects;
  }

  pub with_more : (more : List Object) → AllByRecursion (λ object. BodyApart P Q object.body) more → KnownApart P Q (with_objects (c.objects ++ more) c)
  with_more more all = record {
    tables = k.tables;
    bridged = k.bridged;
    waits = k.waits;
    objects = all_appended (λ (o : Object). BodyApart P Q o.body) c.objects more k.objects all;
  }

-- one more object
pub added_known : (P Q : ℕ → Type 0) (c : CoreState) → KnownApart P Q c → (b : Body) → BodyApart P Q b → KnownApart P Q (added b c)
added_known P Q c k b is_known =
    let more : KnownApart P Q _ = with_more P Q c k ((record { id = c.next; body = b }) ∷ []) (is_known, tt) in
    record { tables = more.tables; bridged = more.bridged; waits = more.waits; objects = more.objects }

module _ (P : ℕ → Type 0) (c : CoreState) (k : Known P c) where
  pub weaker : (Q : ℕ → Type 0) → ((x : ℕ) → P x → Q x) → Known Q c
  weaker Q up = record {
    tables = all_weaker (λ (a : Application). KnowsTable P a.table) (λ (a : Application). KnowsTable Q a.table)
        (λ a all. all_weaker (λ (e : TableEntry). P e.object) (λ (e : TableEntry). Q e.object) (λ e is. up e.object is) a.table all) c.apps k.tables;
    bridged = all_weaker P Q up c.bridged k.bridged;
    waits = all_weaker (λ (t : Thread). KnowsNames P (activity_names t.activity)) (λ (t : Thread). KnowsNames Q (activity_names t.activity))
        (λ t all. all_weaker (λ (e : Name). P e.object) (λ (e : Name). Q e.object) (λ e is. up e.object is) (activity_names t.activity) all) c.threads k.waits;
    objects = all_weaker (λ (o : Object). KnowsBody P o.body) (λ (o : Object). KnowsBody Q o.body)
        (λ o all. names_body Q o.body (all_weaker P Q up (named_in o.body) (body_names P o.body all))) c.objects k.objects;
  }

-- The same, of the entries that name objects as one list.

module _ (P : ℕ → Type 0) (c : CoreState) where
  abbrev KnowsName : Name → Type 0
  KnowsName name = P name.object

  abbrev in_tables : List Name
  in_tables = flat_map table_names c.apps

  abbrev in_bridge : List Name
  in_bridge = map root c.bridged

  abbrev in_waits : List Name
  in_waits = flat_map wait_names c.threads

  abbrev in_objects : List Name
  in_objects = flat_map object_names c.objects

  pub apart : AllByRecursion KnowsName (naming c) → Known P c
  unfolding naming
  apart all =
      let roots : AllByRecursion KnowsName (in_tables ++ in_bridge ++ in_waits) = all_first KnowsName (in_tables ++ in_bridge ++ in_waits) in_objects all in
      let first : AllByRecursion KnowsName (in_tables ++ in_bridge) = all_first KnowsName (in_tables ++ in_bridge) in_waits roots in
      record {
        tables = all_weaker (λ (a : Application). AllByRecursion KnowsName (table_names a)) (λ (a : Application). KnowsTable P a.table)
            (λ a names. all_unmapped KnowsName (λ (entry : TableEntry). root entry.object) a.table names) c.apps
            (all_unflat KnowsName table_names c.apps (all_first KnowsName in_tables in_bridge first));
        bridged = all_unmapped KnowsName root c.bridged (all_last KnowsName in_tables in_bridge first);
        waits = all_unflat KnowsName wait_names c.threads (all_last KnowsName (in_tables ++ in_bridge) in_waits roots);
        objects = all_weaker (λ (o : Object). AllByRecursion KnowsName (object_names o)) (λ (o : Object). KnowsBody P o.body)
            (λ o names. names_body P o.body (all_unmapped KnowsName (held_by o.id) (named_in o.body) names)) c.objects
            (all_unflat KnowsName object_names c.objects (all_last KnowsName (in_tables ++ in_bridge ++ in_waits) in_objects all));
      }

  pub together : Known P c → AllByRecursion KnowsName (naming c)
  unfolding naming
  together k =
      let tables : AllByRecursion KnowsName in_tables =
      all_flat KnowsName table_names c.apps (all_weaker (λ (a : Application). KnowsTable P a.table) (λ (a : Application). AllByRecursion KnowsName (table_names a))
      (λ a all. all_mapped (λ (entry : TableEntry). P entry.object) KnowsName (λ entry. root entry.object) (λ entry is. is) a.table all) c.apps k.tables) in
      let bridge : AllByRecursion KnowsName in_bridge = all_mapped P KnowsName root (λ x is. is) c.bridged k.bridged in
      let waits : AllByRecursion KnowsName in_waits = all_flat KnowsName wait_names c.threads k.waits in
      let objects : AllByRecursion KnowsName in_objects =
      all_flat KnowsName object_names c.objects (all_weaker (λ (o : Object). KnowsBody P o.body) (λ (o : Object). AllByRecursion KnowsName (object_names o))
      (λ o all. all_mapped P KnowsName (held_by o.id) (λ x is. is) (named_in o.body) (body_names P o.body all)) c.objects k.objects) in
      all_appended KnowsName (in_tables ++ in_bridge ++ in_waits) in_objects
      (all_appended KnowsName (in_tables ++ in_bridge) in_waits (all_appended KnowsName in_tables in_bridge tables bridge) waits) objects
