-- Rows of changes: how one grows, and that what every change of a kind keeps, a row of them keeps.
use Rattle.std.proofs.Common.{◌≡◌, ◌++◌, List, [], ◌∷◌, subst, sym, refl, ap, ◌∙◌}
use Rattle.kernel_values.specs.declared.state.CoreState.{CoreState}
use Rattle.step_laws.specs.SmallChanges.{Move}
use Rattle.step_laws.specs.Walks.{Row, Tells, told_by}
use Rattle.step_laws.specs.Walks.Row.{stays, goes_on}

module _ (S : CoreState → Type 0) (next : (b : CoreState) → S b → CoreState) (tell : (b : CoreState) → S b → List Move) where
  pub no_change : (c : CoreState) → Tells S next tell c [] c
  no_change c = record { row = stays c refl; tells = refl }

  -- one more change, which tells nothing
  pub one_more : {told : List Move} (s c : CoreState) → Tells S next tell s told c → (change : S c) → tell c change ≡ [] → Tells S next tell s told (next c change)
  one_more s c k change still =
      record { row = goes_on (next c change) c k.row change refl; tells = ap (λ (us : List Move). us ++ told_by S next tell s c k.row) still ∙ k.tells }

  -- one more, which tells of one message
  pub one_told : {told : List Move} (s c : CoreState) → Tells S next tell s told c → (change : S c) (one : Move) → tell c change ≡ one ∷ []
      → Tells S next tell s (one ∷ told) (next c change)
  one_told s c k change one is = record {
    row = goes_on (next c change) c k.row change refl;
    tells = ap (λ (us : List Move). us ++ told_by S next tell s c k.row) is ∙ ap (λ (us : List Move). one ∷ us) k.tells;
  }

  -- what holds in the light of what was told
  pub telling_keeps : (P : List Move → CoreState → Type 0) → ((told : List Move) (b : CoreState) → P told b → (change : S b) → P (tell b change ++ told) (next b change))
      → (c d : CoreState) (row : Row S next c d) → P [] c → P (told_by S next tell c d row) d
  telling_keeps P keeps c d (stays _ is) k = subst (P []) (sym is) k
  telling_keeps P keeps c d (goes_on _ b row change is) k =
      subst (P (tell b change ++ told_by S next tell c b row)) (sym is) (keeps (told_by S next tell c b row) b (telling_keeps P keeps c b row k) change)

module _ (S : CoreState → Type 0) (next : (b : CoreState) → S b → CoreState) where
  pub row_keeps : (P : CoreState → Type 0) → ((b : CoreState) → P b → (change : S b) → P (next b change)) → (c d : CoreState) → Row S next c d → P c → P d
  row_keeps P keeps c d (stays _ is) k = subst P (sym is) k
  row_keeps P keeps c d (goes_on _ b row change is) k = subst P (sym is) (keeps b (row_keeps P keeps c b row k) change)
