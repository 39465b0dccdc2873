-- Three words after the words of earlier requests.
use Rattle.std.proofs.Common.{◌≡◌, ℕ, ◌+◌, ◌*◌, ◌%◌, ◌^◌, ap, ◌∙◌, arith}
use Rattle.rand_chacha.specs.ChaCha.{ChaCha, next_word, word_at}
use Rattle.pcp_script.specs.Loads.{load_at, load_key, load_word, load_request, request_at}

-- the place of the word after n words and one more
next_place : (n : ℕ) → (n % 2 ^ 68 + 1) % 2 ^ 68 ≡ (n + 1) % 2 ^ 68
next_place n = omega arith

second_word : (number i : ℕ) → (next_word 4 (next_word 4 (load_at number i)).1).0 ≡ load_word number (3 * i + 1)
second_word number i = ap (word_at 4 (load_key number) 0) (next_place (3 * i))

third_place : (n : ℕ) → ((n % 2 ^ 68 + 1) % 2 ^ 68 + 1) % 2 ^ 68 ≡ (n + 2) % 2 ^ 68
third_place n = omega arith

third_word : (number i : ℕ) → (next_word 4 (next_word 4 (next_word 4 (load_at number i)).1).1).0 ≡ load_word number (3 * i + 2)
third_word number i = ap (word_at 4 (load_key number) 0) (third_place (3 * i))

pub request_of_draw : (number i : ℕ) (g : ChaCha) → g ≡ load_at number i → (first second third : ℕ)
    → first ≡ (next_word 4 g).0 → second ≡ (next_word 4 (next_word 4 g).1).0
    → third ≡ (next_word 4 (next_word 4 (next_word 4 g).1).1).0
    → load_request first second third ≡ request_at number i
request_of_draw number i g at first second third one two three =
    let first_is : first ≡ load_word number (3 * i) = one ∙ ap (λ m. (next_word 4 m).0) at in
    let second_is : second ≡ load_word number (3 * i + 1) =
    two ∙ ap (λ m. (next_word 4 (next_word 4 m).1).0) at ∙ second_word number i in
    let third_is : third ≡ load_word number (3 * i + 2) =
    three ∙ ap (λ m. (next_word 4 (next_word 4 (next_word 4 m).1).1).0) at ∙ third_word number i in
    ap (λ w. load_request w second third) first_is
    ∙ ap (λ w. load_request (load_word number (3 * i)) w third) second_is
    ∙ ap (λ w. load_request (load_word number (3 * i)) (load_word number (3 * i + 1)) w) third_is
