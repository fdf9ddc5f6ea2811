use Rattle.std.proofs.Common.{rules, ◌≡◌, ◌∷◌, ◌≤◌, ap, arith, length, true, ◌∙◌}
use Rattle.std.specs.List.{list_all}
use Rattle.std.proofs.lemmas.List.{nil_from_length}
use Rattle.coll_text.specs.Text.{is_digit, is_number, with_digits}
use Rattle.coll_text.proofs.Leading.{last_word, plain_read, word_before}
use Rattle.coll_text.proofs.values.plain_value.Goals as goal

pub returns-in-None-clause-parts : goal.returns-in-None-clause-parts
returns-in-None-clause-parts c =
    let back = c.split_at.result.1.now in
    let none : length back ≡ 0 = search rules in
    last_word c.args.line.now c.split_at.result.0.now back c.leading_digits-number.result.1 c.split_at.ensures.front c.split_at.ensures.back
    (nil_from_length back none) c.leading_digits-number.ensures.digits

pub returns-in-None-clause-value : goal.returns-in-None-clause-value
returns-in-None-clause-value c =
    let word = c.split_at.result.0.now in
    let front = c.split_at.ensures.front in
    let digits : list_all is_digit word ≡ true = ap (list_all is_digit) front ∙ c.leading_digits-number.ensures.digits in
    let one : is_number word ≡ true = search rules in
    let fits : c.leading_digits-number.result.0 ≤ c.args.most = omega arith in
    plain_read c.args.ty c.args.most c.leading_digits-number.result.0 word c.requires fits one digits
    (ap (with_digits 0) front ∙ c.leading_digits-number.ensures.value)

pub returns-in-Some-eq32-default-clause-parts : goal.returns-in-Some-eq32-default-clause-parts
returns-in-Some-eq32-default-clause-parts c =
    let back = c.split_at.result.1.now in
    let b = c.in-Some-eq32-default.field-0-0.now in
    let rest = c.in-Some-eq32-default.rest.now in
    let space : b ≡ 32 = search rules in
    let next : back ≡ b ∷ rest = search rules in
    word_before c.args.line.now c.split_at.result.0.now back rest c.leading_digits-number.result.1 b c.split_at.ensures.front
    c.split_at.ensures.back
    next space c.leading_digits-number.ensures.digits

pub returns-in-Some-eq32-default-clause-value : goal.returns-in-Some-eq32-default-clause-value
returns-in-Some-eq32-default-clause-value c =
    let word = c.split_at.result.0.now in
    let front = c.split_at.ensures.front in
    let digits : list_all is_digit word ≡ true = ap (list_all is_digit) front ∙ c.leading_digits-number.ensures.digits in
    let one : is_number word ≡ true = search rules in
    let fits : c.leading_digits-number.result.0 ≤ c.args.most = omega arith in
    plain_read c.args.ty c.args.most c.leading_digits-number.result.0 word c.requires fits one digits
    (ap (with_digits 0) front ∙ c.leading_digits-number.ensures.value)
