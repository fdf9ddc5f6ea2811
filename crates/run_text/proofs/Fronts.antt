-- Reads one after the other.
use Rattle.std.proofs.Common.{List, ℕ, [], ◌++◌, Option, Some, None, refl, sym, ◌∙◌, ap, append_assoc}
use Rattle.port_io.specs.Ends.{GivesFront, IsAtEnd}

pub GivesFront-nothing : (told : Option (List ℕ)) → GivesFront told told []
GivesFront-nothing None = refl
GivesFront-nothing (Some left) = refl

pub GivesFront-then : (a b c : Option (List ℕ)) (xs ys : List ℕ) → GivesFront a b xs → GivesFront b c ys → GivesFront a c (xs ++ ys)
GivesFront-then None None c xs ys first then = then
GivesFront-then None (Some left) c xs ys first then = absurd (cc)
GivesFront-then (Some rest) None c xs ys first then = absurd first
GivesFront-then (Some rest) (Some left) None xs ys first then = absurd then
GivesFront-then (Some rest) (Some left) (Some last) xs ys first then = first ∙ (ap (λ zs. xs ++ zs) then ∙ sym (append_assoc xs ys last))

-- at the end nothing more is taken
pub IsAtEnd-stays : (a b : Option (List ℕ)) → IsAtEnd a → GivesFront a b [] → IsAtEnd b
IsAtEnd-stays None None end gives = tt
IsAtEnd-stays None (Some left) end gives = absurd (cc)
IsAtEnd-stays (Some rest) None end gives = absurd gives
IsAtEnd-stays (Some rest) (Some left) end gives = sym gives ∙ end
