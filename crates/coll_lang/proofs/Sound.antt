-- What the lines so far say is well formed, and they are what is written of it. One line more keeps both.
use Rattle.std.proofs.Common.{◌≡◌, ℕ, ◌<◌, ◌≤◌, List, [], ◌∷◌, ◌++◌, length, map, take, Option, Some, None, Result, Ok, Err, Bool, true}
use Rattle.std.proofs.Common.{false, ◌&&◌, not, refl, ap, arith, append_assoc, inl, inr, ◌⊎◌}
use Rattle.std.specs.Prelude.{nat_lt, nat_le, is_some}
use Rattle.std.proofs.lemmas.Bool.Decides.{nat_tests}
use Rattle.std.proofs.lemmas.List.{append-nil, take_all}
use Rattle.ptl_types.specs.declared.elements.ElemType.{ElemType}
use Rattle.coll_text.specs.Text.{line}
use Rattle.number_lists.specs.Members.{In}
use Rattle.coll_shape.specs.declared.types.Buffer.{Buffer}
use Rattle.coll_shape.specs.declared.types.Group.{Group}
use Rattle.coll_shape.specs.Outline.{Outline, no_buffer, no_group}
use Rattle.coll_shape.specs.WellFormed.{printed_elements, names}
use Rattle.coll_lang.specs.Forms.{complete}
use Rattle.coll_lang.specs.Language.{Past, ◌>>=◌, refuse, or_refuse, is_taken, group_number, buffer_number, plain}
use Rattle.coll_lang.specs.Spelling.{head_text, remote_text, groups_text, inputs_text, steps_text, choices_text, prints_text, name_at}
use Rattle.coll_lang.specs.declared.stage.Stage.TheVariants.{Groups}
use Rattle.coll_lang.specs.declared.fault.Refusal.{Refusal}
use Rattle.coll_lang.proofs.FormSaid.{form_words}
use Rattle.coll_lang.proofs.InputLists.{Filled, Filling}
use Rattle.coll_lang.proofs.Facts.{Facts, in_either}
use Rattle.coll_lang.proofs.Growing.{not_there, untaken}
use Rattle.coll_lang.proofs.Lines.{IsEarly, remote_facts}

abbrev pub outline : Past → Outline
outline past = (plain past).shape

-- ---- what is written of the lines so far
abbrev pub tail : Past → List ℕ
tail past = steps_text past.groups past.buffers past.steps past.on
    ++ (choices_text past.choices ++ prints_text (name_at past.buffers) past.prints)

abbrev pub body : Past → List ℕ
body past = head_text past.version past.ranks
    ++ (remote_text past.remote
    ++ (groups_text past.groups ++ (inputs_text past.ranks (take past.inputs past.buffers) past.given ++ tail past)))

-- ---- what holds by the stage
pub record AtEarly (past : Past) : Type 0 where
  pub facts : Facts (outline past)
  pub early : IsEarly (outline past)
  pub no_choices : past.choices ≡ []
  pub none_printed : past.printed ≡ 0

pub record AtInputs (past : Past) : Type 0 where
  pub early : AtEarly past
  pub filled : Filled past.ranks past.buffers past.given

pub record AtData (past : Past) (left : ℕ) (ty : ElemType) (count : ℕ) : Type 0 where
  pub early : AtEarly past
  pub earlier : List Buffer
  pub newest : Buffer
  pub are : past.buffers ≡ earlier ++ newest ∷ []
  pub type_is : newest.ty ≡ ty
  pub length_is : newest.spread.length ≡ count
  pub filling : Filling past.ranks left earlier newest past.given
  pub due : 0 < left

pub record AtSteps (past : Past) : Type 0 where
  pub facts : Facts (outline past)
  pub filled : Filled past.ranks (take past.inputs past.buffers) past.given
  pub no_prints : past.prints ≡ []
  pub no_choices : past.choices ≡ []
  pub none_printed : past.printed ≡ 0

pub record AtPrints (past : Past) : Type 0 where
  pub facts : Facts (outline past)
  pub filled : Filled past.ranks (take past.inputs past.buffers) past.given
  pub no_choices : past.choices ≡ []
  pub counted : past.printed ≡ printed_elements (outline past)

-- how a chain of tests came to its end
pub ok_of : {A B : Type 0} (r : Result A Refusal) (f : A → Result B Refusal) (y : B) → (r >>= f) ≡ Ok y
    → (x : A) × (r ≡ Ok x) × (f x ≡ Ok y)
ok_of (Ok x) f y h = (x, refl, h)
ok_of (Err e) f y h = cc

pub some_of : {A B : Type 0} (name : Refusal) (o : Option A) (f : A → Result B Refusal) (y : B) → (or_refuse name o >>= f) ≡ Ok y
    → (x : A) × (o ≡ Some x) × (f x ≡ Ok y)
some_of name None f y h = cc
some_of name (Some x) f y h = (x, refl, h)

pub passed : {B : Type 0} (b : Bool) (name : Refusal) (f : Unit {0} → Result B Refusal) (y : B) → (refuse b name >>= f) ≡ Ok y
    → (b ≡ false) × (f tt ≡ Ok y)
passed true name f y h = cc
passed false name f y h = (refl, h)

pub ok_is : (x y : Past) → let z : Result Past Refusal = Ok y in Ok x ≡ z → x ≡ y
ok_is x y h = cc

pub room : (most n : ℕ) → nat_le most n ≡ false → n < most
room most n h = grind (arith, nat_tests)

pub not_above : (most n : ℕ) → nat_lt most n ≡ false → n ≤ most
not_above most n h = grind (arith, nat_tests)

pub both_true : (b c : Bool) → (b && c) ≡ true → (b ≡ true) × (c ≡ true)
both_true true c e = (refl, e)
both_true false c e = cc

pub not_not : (b : Bool) → not b ≡ false → b ≡ true
not_not true e = refl
not_not false e = cc

-- a name that isn't taken is new
pub new_name : (past : Past) (name : List ℕ) → is_taken past name ≡ false → In name (names (outline past)) → ⊥
new_name past name fresh h =
    let u = untaken (is_some (group_number past.groups name)) (is_some (buffer_number past.buffers name)) fresh in
    go u.0 u.1 (in_either name (map (λ (g : Group). g.name) past.groups) (map (λ (b : Buffer). b.name) past.buffers) h)
  where
    go : is_some (group_number past.groups name) ≡ false → is_some (buffer_number past.buffers name) ≡ false
        → In name (map (λ (g : Group). g.name) past.groups) ⊎ In name (map (λ (b : Buffer). b.name) past.buffers) → ⊥
    go f g (inl k) = not_there (λ (g : Group). g.name) past.groups no_group name f k
    go f g (inr k) = not_there (λ (b : Buffer). b.name) past.buffers no_buffer name g k

-- ---- nothing is written of nothing
pub no_tail : (past : Past) → past.steps ≡ [] → past.choices ≡ [] → past.prints ≡ [] → tail past ≡ []
no_tail past es ec ep = rw (es, ec, ep) refl

pub all_taken : (bs : List Buffer) (inputs : ℕ) → inputs ≡ length bs → take inputs bs ≡ bs
all_taken bs inputs e = take_all inputs bs (omega (arith, e))

-- where the new line's text goes
behind_remote : (h x m g i t : List ℕ) → m ≡ [] → g ≡ [] → i ≡ [] → t ≡ []
    → h ++ (x ++ (g ++ (i ++ t))) ≡ (h ++ (m ++ (g ++ (i ++ t)))) ++ x
behind_remote h x m g i t em eg ei et = rw (em, eg, ei, et) (simp (append_assoc, append-nil) refl)

behind_groups : (h m g x i t : List ℕ) → i ≡ [] → t ≡ [] → h ++ (m ++ ((g ++ x) ++ (i ++ t))) ≡ (h ++ (m ++ (g ++ (i ++ t)))) ++ x
behind_groups h m g x i t ei et = rw (ei, et) (simp (append_assoc, append-nil) refl)

pub behind_inputs : (h m g i x t u : List ℕ) → t ≡ [] → u ≡ [] → h ++ (m ++ (g ++ ((i ++ x) ++ u))) ≡ (h ++ (m ++ (g ++ (i ++ t)))) ++ x
behind_inputs h m g i x t u et eu = rw (et, eu) (simp (append_assoc, append-nil) refl)

pub behind_tail : (h m g i t x : List ℕ) → h ++ (m ++ (g ++ (i ++ (t ++ x)))) ≡ (h ++ (m ++ (g ++ (i ++ t)))) ++ x
behind_tail h m g i t x = simp append_assoc

-- ---- a line more: what holds then, and what is written
no_inputs : (past : Past) → past.inputs ≡ length past.buffers → past.buffers ≡ []
    → inputs_text past.ranks (take past.inputs past.buffers) past.given ≡ []
no_inputs past c e = rw (all_taken past.buffers past.inputs c, e) refl

-- `complete remote`
pub complete_goes : (past : Past) → AtInputs past → past.buffers ≡ [] → past.groups ≡ [] → past.remote ≡ false
    → let next : Past = record past { stage = Groups; remote = true } in
    AtInputs next × (body next ≡ body past ++ line (form_words complete))
complete_goes past a none no_groups plain_one = (
  record {
    early = record {
      facts = remote_facts (outline past) a.early.facts a.early.early;
      early = record {
        no_steps = a.early.early.no_steps;
        no_on = a.early.early.no_on;
        no_prints = a.early.early.no_prints;
        counted = a.early.early.counted;
      };
      no_choices = a.early.no_choices;
      none_printed = a.early.none_printed;
    };
    filled = a.filled;
  },
  behind_remote (head_text past.version past.ranks) (line (form_words complete)) (remote_text past.remote) (groups_text past.groups)
      (inputs_text past.ranks (take past.inputs past.buffers) past.given) (tail past)
      (ap remote_text plain_one) (ap groups_text no_groups) (no_inputs past a.early.early.counted none)
      (no_tail past a.early.early.no_steps a.early.no_choices a.early.early.no_prints),
)
