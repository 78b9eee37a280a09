use Rattle.std.proofs.Common.{◌⊎◌, inl, inr, sym, ap}
use Rattle.doc_model.specs.Answers.{full_place}
use Rattle.doc_model.proofs.answer.full_place.Goals as goal

one_of_five : {A B C D E P : Type 0} → A ⊎ (B ⊎ (C ⊎ (D ⊎ E))) → (A → P) → (B → P) → (C → P)
    → (D → P) → (E → P) → P
one_of_five (inl a) f g h i j = f a
one_of_five (inr (inl b)) f g h i j = g b
one_of_five (inr (inr (inl c))) f g h i j = h c
one_of_five (inr (inr (inr (inl d)))) f g h i j = i d
one_of_five (inr (inr (inr (inr e)))) f g h i j = j e

pub returns-in-Get : goal.returns-in-Get
returns-in-Get c =
    let place = full_place c.args.shown c.args.account.now in
    one_of_five c.in-Get.is (λ w. sym (ap place w.1)) (λ w. sym (ap place w.1))
    (λ w. sym (ap place w.1)) (λ w. sym (ap place w.2)) (λ w. sym (ap place w.1))

pub returns-in-Get-2 : goal.returns-in-Get-2
returns-in-Get-2 c =
    let place = full_place c.args.shown c.args.account.now in
    one_of_five c.in-Get.is (λ w. sym (ap place w.1)) (λ w. sym (ap place w.1))
    (λ w. sym (ap place w.1)) (λ w. sym (ap place w.2)) (λ w. sym (ap place w.1))

pub returns-in-Get-3 : goal.returns-in-Get-3
returns-in-Get-3 c =
    let place = full_place c.args.shown c.args.account.now in
    one_of_five c.in-Get.is (λ w. sym (ap place w.1)) (λ w. sym (ap place w.1))
    (λ w. sym (ap place w.1)) (λ w. sym (ap place w.2)) (λ w. sym (ap place w.1))

pub returns-in-Get-4 : goal.returns-in-Get-4
returns-in-Get-4 c =
    let place = full_place c.args.shown c.args.account.now in
    one_of_five c.in-Get.is (λ w. sym (ap place w.1)) (λ w. sym (ap place w.1))
    (λ w. sym (ap place w.1)) (λ w. sym (ap place w.2)) (λ w. sym (ap place w.1))

pub returns-in-Get-5 : goal.returns-in-Get-5
returns-in-Get-5 c =
    let place = full_place c.args.shown c.args.account.now in
    one_of_five c.in-Get.is (λ w. sym (ap place w.1)) (λ w. sym (ap place w.1))
    (λ w. sym (ap place w.1)) (λ w. sym (ap place w.2)) (λ w. sym (ap place w.1))
