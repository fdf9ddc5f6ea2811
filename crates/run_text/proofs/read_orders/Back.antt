-- Orders that are written are read back.
use Rattle.std.proofs.Common.{ℕ, zero, suc, ◌+◌, ◌-◌, ◌<◌, ◌≤◌, ◌^◌, ◌≡◌, ◌++◌, List, [], ◌∷◌, map, Option, Some, None, Ok, Err, true}
use Rattle.std.proofs.Common.{false, cond, ◌&&◌, refl, sym, ap, ◌∙◌, arith, append_assoc}
use Rattle.std.specs.Prelude.{nat_le, ◌==◌, is_some, option_map, option_and_then, codes}
use Rattle.std.specs.List.{list_all, join_with_byte, flat_map, AllByRecursion}
use Rattle.std.specs.Fmt.{decimal}
use Rattle.std.proofs.lemmas.Bool.Decides.{nat_tests}
use Rattle.number_lists.specs.Numbers.{from_to}
use Rattle.ptl_types.specs.declared.headers.Lane.TheVariants.{Request, Answer}
use Rattle.ptl_types.specs.declared.steps.LocalStep.{LocalStep}
use Rattle.ptl_types.specs.declared.steps.LocalStep.TheVariants.{Start, Receive, Fire}
use Rattle.coll_text.specs.Text.{lines, number_between, words}
use Rattle.coll_text.proofs.ReadBack.{line_of, none_is, number_read, words_of_joined}
use Rattle.coll_text.proofs.WordsBack.{is_solid, number_solid, solid_apart}
use Rattle.coll_lang.specs.Language.{is_allowed}
use Rattle.coll_lang.specs.declared.fault.Refusal.TheVariants.{BadByte}
use Rattle.coll_lang.proofs.Leading.{solid_allowed}
use Rattle.run_text.specs.Orders.{order_line, step_word}
use Rattle.order_lines.specs.Orders.{and_later, order_at, order_of, read_orders, step_of, steps_of, unless_bad}
use Rattle.order_lines.proofs.Lines.{some_piece}
use Rattle.run_text.specs.read_orders.Named.{AreNamed, IsNamed}

within : (low high n : ℕ) → low ≤ n → n ≤ high → (nat_le low n && nat_le n high) ≡ true
within low high n l h = grind (arith, nat_tests, l, h)

number_back : (low high n : ℕ) → low ≤ n → n ≤ high → n < 2 ^ 64 → number_between low high (decimal n) ≡ Some n
number_back low high n l h small =
    ap (option_and_then (λ m. cond (nat_le low m && nat_le m high) (Some m) None)) (number_read n small)
    ∙ ap (λ b. cond b (Some n) None) (within low high n l h)

step_back : (ranks : ℕ) (e : LocalStep) → ranks ≤ 2 ^ 32 → IsNamed ranks e → step_of ranks (step_word e) ≡ Some e
unfolding step_of
step_back ranks Start fits h = refl
step_back ranks (Receive s Request) fits h =
    ap (option_map (λ s. Receive s Request)) (number_back 0 (ranks - 1) s (omega arith) (omega (arith, h)) (omega (arith, h, fits)))
step_back ranks (Receive s Answer) fits h =
    ap (option_map (λ s. Receive s Answer)) (number_back 0 (ranks - 1) s (omega arith) (omega (arith, h)) (omega (arith, h, fits)))
step_back ranks (Fire t) fits h =
    ap (option_map (λ t. Fire t)) (number_back 0 4294967295 t (omega arith) (omega (arith, h)) (omega (arith, h)))

steps_back : (ranks : ℕ) (es : List LocalStep) → ranks ≤ 2 ^ 32 → AreNamed ranks es → steps_of ranks (map step_word es) ≡ Some es
steps_back ranks [] fits h = refl
steps_back ranks (e ∷ es) fits h =
    ap (option_and_then (λ f. option_map (λ fs. f ∷ fs) (steps_of ranks (map step_word es)))) (step_back ranks e fits h.0)
    ∙ ap (option_map (λ fs. e ∷ fs)) (steps_back ranks es fits h.1)

-- words without spaces
step_solid : (ranks : ℕ) (e : LocalStep) → ranks ≤ 2 ^ 32 → IsNamed ranks e → list_all is_solid (step_word e) ≡ true
step_solid ranks Start fits h = refl
step_solid ranks (Receive s Request) fits h = number_solid s (omega (arith, h, fits))
step_solid ranks (Receive s Answer) fits h = number_solid s (omega (arith, h, fits))
step_solid ranks (Fire t) fits h = number_solid t (omega (arith, h))

steps_solid : (ranks : ℕ) (es : List LocalStep) → ranks ≤ 2 ^ 32 → AreNamed ranks es
    → AllByRecursion (λ w. list_all is_solid w ≡ true) (map step_word es)
steps_solid ranks [] fits h = tt
steps_solid ranks (e ∷ es) fits h = (step_solid ranks e fits h.0, steps_solid ranks es fits h.1)

abbrev order_words : ℕ → List LocalStep → List (List ℕ)
order_words r es = codes "order" ∷ decimal r ∷ map step_word es

order_solid : (ranks r : ℕ) (es : List LocalStep) → ranks ≤ 2 ^ 32 → r < ranks → AreNamed ranks es
    → AllByRecursion (λ w. list_all is_solid w ≡ true) (order_words r es)
order_solid ranks r es fits lt h = (refl, (number_solid r (omega (arith, lt, fits)), steps_solid ranks es fits h))

-- the words of an order's line
words_back : (ranks r : ℕ) (es : List LocalStep) → ranks ≤ 2 ^ 32 → r < ranks → AreNamed ranks es
    → order_of ranks r (order_words r es) ≡ Some es
unfolding order_of
words_back ranks r es fits lt h =
    ap (λ (o : Option ℕ). cond (is_some o) (steps_of ranks (map step_word es)) None)
    (number_back r r r (omega arith) (omega arith) (omega (arith, lt, fits)))
    ∙ steps_back ranks es fits h

order_back : (ranks r k : ℕ) (es : List LocalStep) → ranks ≤ 2 ^ 32 → r < ranks → AreNamed ranks es
    → order_at ranks r k (join_with_byte 32 (order_words r es)) ≡ Ok es
unfolding order_at
order_back ranks r k es fits lt h =
    let solid = order_solid ranks r es fits lt h in
    ap (λ b. cond b (unless_bad k (order_of ranks r (words (join_with_byte 32 (order_words r es))))) (Err (k, BadByte)))
    (solid_allowed (order_words r es) solid)
    ∙ ap (λ ws. unless_bad k (order_of ranks r ws))
    (words_of_joined (codes "order") (decimal r ∷ map step_word es) (solid_apart (order_words r es) solid))
    ∙ ap (unless_bad k) (words_back ranks r es fits lt h)

no_break : (b : ℕ) → is_allowed b ≡ true → b == 10 ≡ false
no_break b h = grind (arith, nat_tests, h)

pub orders_back : (ranks left r k : ℕ) (steps : ℕ → List LocalStep) → ranks ≤ 2 ^ 32 → r + left ≤ ranks
    → ((q : ℕ) → q < ranks → AreNamed ranks (steps q))
    → read_orders ranks left r k (lines (flat_map (λ q. order_line q (steps q)) (from_to r left))) ≡ Ok (map steps (from_to r left))
unfolding read_orders
orders_back ranks zero r k steps fits lt named = refl
orders_back ranks (suc left) r k steps fits lt named =
    let l = join_with_byte 32 (order_words r (steps r)) in
    let next : suc r ≡ r + 1 = omega arith in
    let rest = flat_map (λ q. order_line q (steps q)) (from_to (r + 1) left) in
    let solid = order_solid ranks r (steps r) fits (omega (arith, lt)) (named r (omega (arith, lt))) in
    let p = some_piece rest in
    let cut : lines (flat_map (λ q. order_line q (steps q)) (from_to r (suc left))) ≡ l ∷ p.0 ∷ p.1 =
    ap (λ q. lines (order_line r (steps r) ++ flat_map (λ q. order_line q (steps q)) (from_to q left))) next
    ∙ ap lines (append_assoc l (10 ∷ []) rest)
    ∙ line_of l rest (none_is is_allowed 10 l no_break (solid_allowed (order_words r (steps r)) solid))
    ∙ ap (λ (v : List (List ℕ)). l ∷ v) p.2 in
    ap (read_orders ranks (suc left) r k) cut
    ∙ ap (λ a. and_later a (read_orders ranks left (r + 1) (k + 1) (p.0 ∷ p.1)))
    (order_back ranks r k (steps r) fits (omega (arith, lt)) (named r (omega (arith, lt))))
    ∙ ap (λ (v : List (List ℕ)). and_later (Ok (steps r)) (read_orders ranks left (r + 1) (k + 1) v)) (sym p.2)
    ∙ ap (and_later (Ok (steps r))) (orders_back ranks left (r + 1) (k + 1) steps fits (omega (arith, lt)) named)
    ∙ ap (λ (q : ℕ). and_later (Ok (steps r)) (Ok (map steps (from_to q left)))) (sym next)
