-- The operations of a rank by their numbers, and their lines word by word.
use Rattle.std.proofs.Common.{ℕ, ◌≡◌, ◌≤◌, ◌<◌, ◌+◌, ◌-◌, false, List, ◌∷◌, ◌++◌, length, get_or, map, ap, sym, ◌∙◌, refl, arith}
use Rattle.std.specs.Prelude.{codes}
use Rattle.std.specs.Fmt.{decimal}
use Rattle.std.proofs.lemmas.List.{get_or_append_left, get_or-append_right, get_or-map, length-append, length-map}
use Rattle.coll_text.specs.Text.{line}
use Rattle.ptl_types.specs.declared.steps.LocalStep.TheVariants.{Fire}
use Rattle.plan_core.specs.declared.LinkKind.{LinkKind}
use Rattle.plan_core.specs.declared.LinkKind.TheVariants.{Put, Atomic, Bump}
use Rattle.plan_core.specs.Plan.{is_bump}
use Rattle.plan_core.specs.calls.RankOps.RankOp.{ForLink, ForDone}
use Rattle.run_text.specs.declared.words.Word.{Word}
use Rattle.run_text.specs.Orders.{step_word}
use Rattle.run_text.specs.Worded.{word_bytes}
use Rattle.run_text.proofs.Wording.{worded}
use Rattle.plan_words.specs.Words.{no_op, ops_of}

-- the line of an operation is `f`, and then its number and words
pub fired : (n : ℕ) (ws : List Word) → line (step_word (Fire n) ∷ map word_bytes ws) ≡ codes "f" ++ line (decimal n ∷ map word_bytes ws)
fired n ws = worded (codes "f" ++ decimal n) word_bytes ws ∙ ap (λ v. 102 ∷ v) (sym (worded (decimal n) word_bytes ws))

pub no_bump : (kind : LinkKind) → (kind ≡ Bump → ⊥) → is_bump kind ≡ false
no_bump Put other = refl
no_bump Atomic other = refl
no_bump Bump other = absurd (other refl)

-- ---- the operations of a rank that fires these links and has these cells

pub ops-count : (links cells : List ℕ) → length (ops_of links cells) ≡ length links + length cells
ops-count links cells =
    let a = length-append (map ForLink links) (map ForDone cells) in
    let b = length-map links ForLink in
    let c = length-map cells ForDone in
    omega (arith, a, b, c)

pub at_link : (links cells : List ℕ) (n : ℕ) → n < length links → get_or (ops_of links cells) n no_op ≡ ForLink (get_or links n 0)
at_link links cells n low =
    let b = length-map links ForLink in
    get_or_append_left (map ForLink links) (map ForDone cells) no_op n (omega (arith, b, low))
    ∙ get_or-map ForLink links n 0 no_op low

pub at_cell : (links cells : List ℕ) (n : ℕ) → length links ≤ n → n < length links + length cells
    → get_or (ops_of links cells) n no_op ≡ ForDone (get_or cells (n - length links) 0)
at_cell links cells n high low =
    get_or-append_right (map ForLink links) (map ForDone cells) (length links) n no_op (length-map links ForLink) high
    ∙ get_or-map ForDone cells (n - length links) 0 no_op (omega (arith, high, low))
