-- Every line marked P and every message that an ask names holds, by computing. Assumes nothing.
use mathlib.Core.Path.{◌≡◌, refl}
use Rattle.format.specs.Messages.{outcome}
use Rattle.format.specs.Answers.{reading, writing, normalising}
use Rattle.format.specs.Examples.{examples, huge_repeat, struc_first, cuts, Holds, All}

-- what computes to itself on both sides, four times
four : {A B C D : Type 0} {a : A} {b : B} {c : C} {d : D} → (a ≡ a) × (b ≡ b) × (c ≡ c) × (d ≡ d)
four = (refl, refl, refl, refl)

pub examples_hold : All examples
unfolding examples outcome reading writing normalising
examples_hold =
    (four, (four, (four, (four, (four, (four, (four, (four, (four, (four, (four, (four, (λ t. refl, (λ t. refl, (four, tt)))))))))))))))

pub huge_repeat_holds : Holds huge_repeat
unfolding huge_repeat outcome reading writing normalising
huge_repeat_holds = (refl, refl, refl, refl)

pub struc_first_holds : Holds struc_first
unfolding struc_first outcome reading
struc_first_holds = λ t. refl

pub cuts_hold : All cuts
unfolding cuts outcome reading
cuts_hold = (λ t. refl, (λ t. refl, (λ t. refl, (λ t. refl, (λ t. refl, (λ t. refl, (λ t. refl, (λ t. refl, (λ t. refl, tt)))))))))
