-- Texts with spaces between them, joined from the left or from the right.
use Rattle.std.proofs.Common.{◌≡◌, ℕ, List, ◌++◌, codes, sym, ◌∙◌, append_assoc}

pub two : (front a b : List ℕ) → front ++ (a ++ (codes " " ++ b)) ≡ front ++ a ++ codes " " ++ b
two front a b = sym (append_assoc (front ++ a) (codes " ") b ∙ append_assoc front a (codes " " ++ b))

pub three : (front a b c : List ℕ)
    → front ++ (a ++ (codes " " ++ (b ++ (codes " " ++ c)))) ≡ front ++ a ++ codes " " ++ b ++ codes " " ++ c
three front a b c =
    two front a (b ++ (codes " " ++ c))
    ∙ sym (append_assoc (front ++ a ++ codes " " ++ b) (codes " ") c ∙ append_assoc (front ++ a ++ codes " ") b (codes " " ++ c))
