-- The machine of a choice text: how far each rank is with each step, and what is under way, without messages, handles or bytes.
use Rattle.std.specs.Prelude.{ℕ, Bool, true, false, ◌≡◌, ◌==◌, ◌&&◌, ◌+◌, ◌%◌, ◌^◌, List, [], ◌∷◌, ◌++◌, if◌then◌else◌}
use Rattle.ptl_types.specs.Handles.{top}
use Rattle.coll_lang.specs.declared.choices.ChoiceKind.{ChoiceKind}
use Rattle.plan_choice.specs.texts.machine.Choices.{choice_at}
use Rattle.coll_lang.specs.declared.choices.ChoiceKind.TheVariants.{Elect, Tickets}

-- how far a rank is with a step: `old` is the word that the swap of an elect gave back, `value` the rank's result. Tickets go from
-- Served to Learned
pub data Phase : Type 0 where
  Idle : Phase  -- its first operation waits
  Asked : Phase  -- its first request is under way
  Served : (old : ℕ) → Phase  -- the answer is under way
  Answered : (old : ℕ) → Phase  -- the answer is home, and the get waits
  Reading : (old : ℕ) → Phase  -- the get is under way
  Read : (old value : ℕ) → Phase  -- its answer is under way
  Learned : (old value : ℕ) → Phase  -- the result is home, and its telling waits
  Told : (old value : ℕ) → Phase  -- the done counter was told

-- a request of a step: its first, or the get
pub record Ask : Type 0 where
  pub step : ℕ
  pub reads : Bool

-- the answer, with the word of rank 0 as it was
pub record Answer : Type 0 where
  pub step : ℕ
  pub reads : Bool
  pub value : ℕ

-- both together
abbrev pub ask : ℕ → Bool → Ask
ask s reads = record { step = s; reads = reads }

-- the three together
abbrev pub answer : ℕ → Bool → ℕ → Answer
answer s reads v = record { step = s; reads = reads; value = v }

-- a moment: by rank whether it has started, by rank and step how far it is, by step the word of rank 0, and by rank its requests and
-- its answers under way, oldest first
pub record Moment : Type 0 where
  pub started : ℕ → Bool
  pub phase : ℕ → ℕ → Phase
  pub word : ℕ → ℕ
  pub asks : ℕ → List Ask
  pub answers : ℕ → List Answer

-- ---- a function changed at one place

-- at a number
abbrev pub put : {X : Type 0} → ℕ → X → (ℕ → X) → ℕ → X
put n x f k = if k == n then x else f k

-- at a rank and a step
abbrev pub put_in : {X : Type 0} → ℕ → ℕ → X → (ℕ → ℕ → X) → ℕ → ℕ → X
put_in r s x f q t = if (q == r) && (t == s) then x else f q t

-- ---- the first moment

-- the word of a step before any operation
abbrev pub first_word : ChoiceKind → ℕ
first_word Elect = top
first_word Tickets = 0

-- nothing was done
abbrev pub opened : List ChoiceKind → Moment
opened ks = record {
  started = λ r. false;
  phase = λ r s. Idle;
  word = λ s. first_word (choice_at ks s);
  asks = λ r. [];
  answers = λ r. [];
}

-- ---- a start
abbrev pub begun : ℕ → Moment → Moment
begun r m = record m { started = put r true m.started }

-- ---- a firing

-- an operation of the step is ready, where the rank has started
abbrev pub is_ready : ChoiceKind → Phase → Bool
is_ready k Idle = true
is_ready Elect (Answered old) = true
is_ready k (Learned old value) = true
is_ready k _ = false

-- after the firing
abbrev pub advanced : Phase → Phase
advanced Idle = Asked
advanced (Answered old) = Reading old
advanced (Learned old value) = Told old value
advanced p = p

-- what the firing sends
abbrev pub sent_at : ℕ → Phase → List Ask
sent_at s Idle = ask s false ∷ []
sent_at s (Answered old) = ask s true ∷ []
sent_at s _ = []

-- rank r fires the operation of step s that is ready
abbrev pub fired : ℕ → ℕ → Moment → Moment
fired r s m = record m { phase = put_in r s (advanced (m.phase r s)) m.phase; asks = put r (m.asks r ++ sent_at s (m.phase r s)) m.asks }

-- ---- a request at rank 0

-- the word after a request of rank r: a get leaves it
abbrev pub word_after : ChoiceKind → Bool → ℕ → ℕ → ℕ
word_after k true r w = w
word_after Elect false r w = if w == top then r else w
word_after Tickets false r w = (w + 1) % 2 ^ 64

-- the request is answered with this word
abbrev pub served : ℕ → Phase → Phase
served w Asked = Served w
served w (Reading old) = Read old w
served w p = p

-- rank 0 takes request a of rank r, after which `rest` is under way
abbrev pub taken : List ChoiceKind → ℕ → Ask → List Ask → Moment → Moment
taken ks r a rest m = record m {
  phase = put_in r a.step (served (m.word a.step) (m.phase r a.step)) m.phase;
  word = put a.step (word_after (choice_at ks a.step) a.reads r (m.word a.step)) m.word;
  asks = put r rest m.asks;
  answers = put r (m.answers r ++ answer a.step a.reads (m.word a.step) ∷ []) m.answers;
}

-- ---- an answer at home

-- the answer is home
abbrev pub at_home : ChoiceKind → Phase → Phase
at_home Elect (Served old) = Answered old
at_home Tickets (Served old) = Learned 0 old
at_home k (Read old value) = Learned old value
at_home k p = p

-- answer a comes to rank r, after which `rest` is under way
abbrev pub returned : List ChoiceKind → ℕ → Answer → List Answer → Moment → Moment
returned ks r a rest m = record m {
  phase = put_in r a.step (at_home (choice_at ks a.step) (m.phase r a.step)) m.phase;
  answers = put r rest m.answers;
}

-- ---- the end

-- the rank's result, 0 before it is home
abbrev pub value_of : Phase → ℕ
value_of (Learned old value) = value
value_of (Told old value) = value
value_of _ = 0

-- nothing is left to do
pub record IsTold (p : Phase) : Type 0 where
  pub old : ℕ
  pub value : ℕ
  pub is : p ≡ Told old value
