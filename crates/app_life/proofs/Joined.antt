-- Applications as manifests beside lives.
use Rattle.std.proofs.Common.{◌≡◌, ℕ, ◌+◌, ◌<◌, zero, suc, Bool, true, false, not, ◌&&◌, List, [], ◌∷◌, length, map, Option, Some, None, refl, ap, sym, ◌∙◌, arith}
use Rattle.std.specs.Prelude.{slice_get, slice_set, option_map, option_and_then, is_some, if◌then◌else◌, nat_lt}
use Rattle.kernel_values.specs.declared.scene.App.{App}
use Rattle.kernel_values.specs.declared.scene.Manifest.{Manifest}
use Rattle.kernel_values.specs.declared.state.Application.{Application}
use Rattle.kernel_values.specs.declared.state.TableEntry.{TableEntry}
use Rattle.app_life.specs.declared.life.Life.{Life}
use Rattle.app_life.specs.declared.threads.ThreadLife.{ThreadLife}
use Rattle.kernel_types.specs.Objects.{map_at, set_if}
use Rattle.app_life.specs.Lives.{Lives, may_start, started_thread, started_as, started_if_may, table_of, app_runs, reported, app_restarts, last_of, app_table, uuid_of}
use Rattle.kernel_types.specs.Applications.{started_app, ended_app}
use Rattle.kernel_types.specs.Opening.{opening_app}
use Rattle.app_life.specs.Inside.{application, applications, manifest_of, opening_life, begun, stopped, next_start, life_table, is_left, reported_life}
use Rattle.app_life.specs.Lending.{table_set, with_table}
use Rattle.app_life.proofs.Changes.{later}

pub length-applications : (ms : List Manifest) (ls : List Life) → length ms ≡ length ls → length (applications ms ls) ≡ length ls
length-applications [] [] e = refl
length-applications [] (l ∷ ls) e = cc
length-applications (m ∷ ms) [] e = cc
length-applications (m ∷ ms) (l ∷ ls) e = let f : length ms ≡ length ls = omega arith in ap suc (length-applications ms ls f)

-- an application without its manifest
abbrev pub life_of : Application → Life
life_of app = record { starts = app.starts; running = app.running; table = app.table; last = app.last }

abbrev pub app_manifest : Application → Manifest
app_manifest app = app.manifest

pub life_at : (ms : List Manifest) (ls : List Life) (i : ℕ) → length ms ≡ length ls → option_map life_of (slice_get (applications ms ls) i) ≡ slice_get ls i
life_at [] [] i e = refl
life_at [] (l ∷ ls) i e = cc
life_at (m ∷ ms) [] i e = cc
life_at (m ∷ ms) (l ∷ ls) zero e = refl
life_at (m ∷ ms) (l ∷ ls) (suc i) e = let f : length ms ≡ length ls = omega arith in life_at ms ls i f

pub manifest_at : (ms : List Manifest) (ls : List Life) (i : ℕ) → length ms ≡ length ls → option_map app_manifest (slice_get (applications ms ls) i) ≡ slice_get ms i
manifest_at [] [] i e = refl
manifest_at [] (l ∷ ls) i e = cc
manifest_at (m ∷ ms) [] i e = cc
manifest_at (m ∷ ms) (l ∷ ls) zero e = refl
manifest_at (m ∷ ms) (l ∷ ls) (suc i) e = let f : length ms ≡ length ls = omega arith in manifest_at ms ls i f

pub opening-applications : (apps : List App) → applications (map manifest_of apps) (map opening_life apps) ≡ map opening_app apps
opening-applications [] = refl
opening-applications (app ∷ apps) = ap (λ rest. opening_app app ∷ rest) (opening-applications apps)

module _ (f : Life → Life) (g : Application → Application) (same : (m : Manifest) (l : Life) → application m (f l) ≡ g (application m l)) where
  changed-applications : (ms : List Manifest) (ls : List Life) (i : ℕ) → applications ms (map_at f ls i) ≡ map_at g (applications ms ls) i
  changed-applications [] ls i = refl
  changed-applications (m ∷ ms) [] i = refl
  changed-applications (m ∷ ms) (l ∷ ls) zero = ap (λ app. app ∷ applications ms ls) (same m l)
  changed-applications (m ∷ ms) (l ∷ ls) (suc i) =
      rw (later f l ls i, later g (application m l) (applications ms ls) i) (ap (λ rest. application m l ∷ rest) (changed-applications ms ls i))

pub begun-applications : (ms : List Manifest) (ls : List Life) (i : ℕ) → applications ms (map_at begun ls i) ≡ map_at started_app (applications ms ls) i
begun-applications ms ls i = changed-applications begun started_app (λ m l. refl) ms ls i

pub stopped-applications : (ms : List Manifest) (ls : List Life) (i : ℕ) → applications ms (map_at stopped ls i) ≡ map_at ended_app (applications ms ls) i
stopped-applications ms ls i = changed-applications stopped ended_app (λ m l. refl) ms ls i

pub reported-applications : (handle : ℕ) (ms : List Manifest) (ls : List Life) (i : ℕ) → applications ms (map_at (reported_life handle) ls i) ≡ map_at (reported handle) (applications ms ls) i
reported-applications handle ms ls i = changed-applications (reported_life handle) (reported handle) (λ m l. refl) ms ls i

-- what is asked of an application is asked of its life, or of its manifest

table_like : (o : Option Application) → table_of o ≡ life_table (option_map life_of o)
table_like None = refl
table_like (Some app) = refl

pub table_here : (ms : List Manifest) (ls : List Life) (i : ℕ) → length ms ≡ length ls → table_of (slice_get (applications ms ls) i) ≡ life_table (slice_get ls i)
table_here ms ls i e = table_like (slice_get (applications ms ls) i) ∙ ap life_table (life_at ms ls i e)

abbrev pub life_last : Option Life → Option ℕ
life_last None = None
life_last (Some life) = life.last

last_like : (o : Option Application) → last_of o ≡ life_last (option_map life_of o)
last_like None = refl
last_like (Some app) = refl

pub last_here : (ms : List Manifest) (ls : List Life) (i : ℕ) → length ms ≡ length ls → last_of (slice_get (applications ms ls) i) ≡ life_last (slice_get ls i)
last_here ms ls i e = last_like (slice_get (applications ms ls) i) ∙ ap life_last (life_at ms ls i e)

abbrev pub life_runs : Option Life → Bool
life_runs None = false
life_runs (Some life) = life.running

runs_like : (o : Option Application) → app_runs o ≡ life_runs (option_map life_of o)
runs_like None = refl
runs_like (Some app) = refl

pub runs_here : (ms : List Manifest) (ls : List Life) (i : ℕ) → length ms ≡ length ls → app_runs (slice_get (applications ms ls) i) ≡ life_runs (slice_get ls i)
runs_here ms ls i e = runs_like (slice_get (applications ms ls) i) ∙ ap life_runs (life_at ms ls i e)

abbrev pub one_table : Life → List TableEntry
one_table life = life.table

tables_like : (o : Option Application) → option_map app_table o ≡ option_map one_table (option_map life_of o)
tables_like None = refl
tables_like (Some app) = refl

pub app_table_here : (ms : List Manifest) (ls : List Life) (i : ℕ) → length ms ≡ length ls → option_map app_table (slice_get (applications ms ls) i) ≡ option_map one_table (slice_get ls i)
app_table_here ms ls i e = tables_like (slice_get (applications ms ls) i) ∙ ap (option_map one_table) (life_at ms ls i e)

abbrev pub manifest_restarts : Option Manifest → Bool
manifest_restarts None = false
manifest_restarts (Some manifest) = manifest.restart

restarts_like : (o : Option Application) → app_restarts o ≡ manifest_restarts (option_map app_manifest o)
restarts_like None = refl
restarts_like (Some app) = refl

pub restarts_here : (ms : List Manifest) (ls : List Life) (i : ℕ) → length ms ≡ length ls → app_restarts (slice_get (applications ms ls) i) ≡ manifest_restarts (slice_get ms i)
restarts_here ms ls i e = restarts_like (slice_get (applications ms ls) i) ∙ ap manifest_restarts (manifest_at ms ls i e)

abbrev pub one_uuid : Manifest → ℕ
one_uuid manifest = manifest.uuid

uuids_like : (o : Option Application) → option_map uuid_of o ≡ option_map one_uuid (option_map app_manifest o)
uuids_like None = refl
uuids_like (Some app) = refl

pub uuid_here : (ms : List Manifest) (ls : List Life) (i : ℕ) → length ms ≡ length ls → option_map uuid_of (slice_get (applications ms ls) i) ≡ option_map one_uuid (slice_get ms i)
uuid_here ms ls i e = uuids_like (slice_get (applications ms ls) i) ∙ ap (option_map one_uuid) (manifest_at ms ls i e)

-- an application that is there has a life and a manifest

there_is : {X : Type 0} (xs : List X) (i : ℕ) → i < length xs → is_some (slice_get xs i) ≡ true
there_is [] i h = absurd (omega arith)
there_is (x ∷ xs) zero h = refl
there_is (x ∷ xs) (suc i) h = there_is xs i (omega arith)

pub some_life : (ms : List Manifest) (ls : List Life) (i : ℕ) → length ms ≡ length ls → i < length (applications ms ls) → is_some (slice_get ls i) ≡ true
some_life ms ls i e h = there_is ls i (let n = length-applications ms ls e in omega arith)

pub some_manifest : (ms : List Manifest) (ls : List Life) (i : ℕ) → length ms ≡ length ls → i < length (applications ms ls) → is_some (slice_get ms i) ≡ true
some_manifest ms ls i e h = there_is ms i (let n = length-applications ms ls e in omega arith)

-- starts

may_like : (o : Option Application) → may_start o ≡ is_some (option_and_then next_start (option_map life_of o))
may_like None = refl
may_like (Some app) = elim (not app.running && nat_lt app.starts 4) as (λ b. b ≡ is_some (if b then Some (app.starts + 1) else None)) [ true ↦ refl | false ↦ refl ]

pub may_here : (ms : List Manifest) (ls : List Life) (i : ℕ) → length ms ≡ length ls → may_start (slice_get (applications ms ls) i) ≡ is_some (option_and_then next_start (slice_get ls i))
may_here ms ls i e = may_like (slice_get (applications ms ls) i) ∙ ap (λ o. is_some (option_and_then next_start o)) (life_at ms ls i e)

Some-inj : {a b : ℕ} → Some a ≡ Some b → a ≡ b
Some-inj h = cc

started_like : (app start : ℕ) (lives : Lives) (o : Option Application) → option_and_then next_start (option_map life_of o) ≡ Some start
    → record { apps = map_at started_app lives.apps app; threads = map (started_thread app start) lives.threads } ≡ (if may_start o then started_as app o lives else lives)
started_like app start lives None h = cc
started_like app start lives (Some a) h =
    let made = λ (n : ℕ). let r : Lives = record { apps = map_at started_app lives.apps app; threads = map (started_thread app n) lives.threads } in r in
    let P : Bool → Type 0 = λ b. (if b then Some (a.starts + 1) else None) ≡ Some start → made start ≡ (if b then made (a.starts + 1) else lives) in
    let cases : (b : Bool) → P b = λ b. elim b as P [ true ↦ λ k. ap made (sym (Some-inj k)) | false ↦ λ k. cc ] in
    cases (not a.running && nat_lt a.starts 4) h

pub started_lives : (ms : List Manifest) (ls : List Life) (threads : List ThreadLife) (app start : ℕ) → length ms ≡ length ls → option_and_then next_start (slice_get ls app) ≡ Some start
    → record { apps = applications ms (map_at begun ls app); threads = map (started_thread app start) threads } ≡ started_if_may app (record { apps = applications ms ls; threads = threads })
started_lives ms ls threads app start e h =
    rw begun-applications (started_like app start (record { apps = applications ms ls; threads = threads }) (slice_get (applications ms ls) app) (rw (life_at ms ls app e) h))

pub not_started_lives : (lives : Lives) (app : ℕ) → may_start (slice_get lives.apps app) ≡ false → lives ≡ started_if_may app lives
not_started_lives lives app h = rw h refl

left_like : (o : Option Life) (start : ℕ) → option_and_then next_start o ≡ Some start → is_left o ≡ true
left_like None start h = cc
left_like (Some life) start h =
    let P : Bool → Bool → Type 0 = λ b d. (if b && d then Some (life.starts + 1) else None) ≡ Some start → d ≡ true in
    let cases : (b d : Bool) → P b d = λ b d. elim b as (λ b. P b d) [ true ↦ elim d as (λ d. P true d) [ true ↦ λ k. refl | false ↦ λ k. cc ] | false ↦ λ k. cc ] in
    cases (not life.running) (nat_lt life.starts 4) h

pub is_left_here : (ls : List Life) (at start : ℕ) → option_and_then next_start (slice_get ls at) ≡ Some start → is_left (slice_get ls at) ≡ true
is_left_here ls at start h = left_like (slice_get ls at) start h

-- an application of which a start may be made does not run
stands_like : (o : Option Application) → may_start o ≡ true → app_runs o ≡ false
stands_like None h = refl
stands_like (Some app) h =
    let P : Bool → Type 0 = λ b. (not b && nat_lt app.starts 4) ≡ true → b ≡ false in
    let cases : (b : Bool) → P b = λ b. elim b as P [ true ↦ λ k. cc | false ↦ λ k. refl ] in
    cases app.running h

pub stands_here : (apps : List Application) (app : ℕ) → may_start (slice_get apps app) ≡ true → app_runs (slice_get apps app) ≡ false
stands_here apps app h = stands_like (slice_get apps app) h

-- a table is replaced

abbrev pub life_table_set : List TableEntry → Life → Life
life_table_set table life = record life { table = table }

tabled-applications : (table : List TableEntry) (ms : List Manifest) (ls : List Life) (i : ℕ) (l : Life) → slice_get ls i ≡ Some l
    → applications ms (slice_set ls i (life_table_set table l)) ≡ map_at (table_set table) (applications ms ls) i
tabled-applications table ms ls i l h =
    ap (λ o. applications ms (set_if ls i (option_map (life_table_set table) o))) (sym h) ∙ changed-applications (life_table_set table) (table_set table) (λ m x. refl) ms ls i

pub tabled_lives : (table : List TableEntry) (ms : List Manifest) (ls : List Life) (threads : List ThreadLife) (i : ℕ) (l : Life) → slice_get ls i ≡ Some l
    → record { apps = applications ms (slice_set ls i (life_table_set table l)); threads = threads } ≡ with_table (record { apps = applications ms ls; threads = threads }) i table
tabled_lives table ms ls threads i l h =
    let with_apps = λ (apps : List Application). let r : Lives = record { apps = apps; threads = threads } in r in
    ap with_apps (tabled-applications table ms ls i l h)
