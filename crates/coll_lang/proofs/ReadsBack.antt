-- A text is read as a description exactly where the description is readable and the text is its one spelling.
use Rattle.std.proofs.Common.{◌≡◌, ◌≤◌, length, Option, Some, None, Ok, refl, ap, ◌∙◌, subst, sym}
use Rattle.coll_lang.specs.Program.{Chosen, Program}
use Rattle.coll_lang.specs.Language.{read}
use Rattle.coll_lang.specs.Spelling.{text}
use Rattle.coll_lang.specs.Readable.{FitsChoices, IsReadable, ReadsExactly}
use Rattle.coll_lang.proofs.ChoiceBack.{choices_back}
use Rattle.coll_lang.proofs.Coming.{comes}
use Rattle.coll_lang.proofs.TextBack.{unchosen, unchosen_back}
use Rattle.coll_lang.specs.declared.whole.TheConstants.{LONGEST_TEXT}

abbrev with : Program → Option Chosen → Program
with d c = record { shape = d.shape; inputs = d.inputs; choices = c }

by_choices : (d : Program) → IsReadable d → (c : Option Chosen) → d.choices ≡ c → read (text d) ≡ Ok d
by_choices d r None e =
    let is : d ≡ unchosen d.shape d.inputs = ap (with d) e in
    subst (λ (x : Program). read (text x) ≡ Ok x) (sym is)
    (unchosen_back d.shape d.inputs r.formed r.given (subst (λ (x : Program). length (text x) ≤ LONGEST_TEXT) is r.short))
by_choices d r (Some c) e =
    let fits : FitsChoices d.shape (Some c) = subst (FitsChoices d.shape) e r.choices in
    let s = r.formed.shape in
    choices_back d.shape d.inputs c fits.0 fits.1 r.given.many s.some_rank r.formed.version.few_ranks s.few_ranks d (ap (with d) e) r.short

pub reads_back : (d : Program) → IsReadable d → read (text d) ≡ Ok d
reads_back d r = by_choices d r d.choices refl

pub exactly : ReadsExactly
exactly bytes d = (
  λ h. (let c = comes bytes d h in (c.readable, c.spelled)),
  λ h. ap read h.1 ∙ reads_back d h.0,
)
