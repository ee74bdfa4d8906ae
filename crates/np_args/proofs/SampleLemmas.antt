-- The command line of `sample`: clap is exact for it, and which words are its number. For `sample_takes_one_number`.
use Rattle.std.proofs.Common.{◌≡◌, ◌≢◌, ◌∙◌, ◌∷◌, ◌≤◌, ℕ, [], ap, arith, List, None, Option, Some, codes, decimal, option_map, refl, true}
use Rattle.clap.proofs.OnLiterals.{clap_on_literals}
use Rattle.np_args.proofs.FileLemmas.{plain_words}
use Rattle.np_args.proofs.NumberLemmas.{number_to-decimal, number_to-plain}
use Rattle.np_args.specs.Prelude.{Sample as SampleJob, Word, is_plain, job_of, number_to}

-- ---- words

-- one word that is no option
asked_number : (word : Word) → is_plain word ≡ true → job_of (codes "sample" ∷ word ∷ []) ≡ option_map SampleJob (number_to 1000 word)
unfolding clap_on_literals
asked_number word plain = let no = plain_words word plain in rw (no.hyphens, no.long, no.short) refl

pub sampled : (n : ℕ) → 1 ≤ n → n ≤ 1000 → job_of (codes "sample" ∷ decimal n ∷ []) ≡ Some (SampleJob n)
sampled n low high =
    let reads = (number_to-decimal 1000 (omega arith) (decimal n) n).1 (low, high, refl) in
    asked_number (decimal n) (number_to-plain 1000 (decimal n) n reads) ∙ ap (option_map SampleJob) reads

pub no_number : (word : Word) → is_plain word ≡ true → ((n : ℕ) → 1 ≤ n → n ≤ 1000 → word ≢ decimal n) → job_of (codes "sample" ∷ word ∷ []) ≡ None
no_number word plain none = go (number_to 1000 word) refl
  where
    go : (found : Option ℕ) → number_to 1000 word ≡ found → job_of (codes "sample" ∷ word ∷ []) ≡ None
    go None is = asked_number word plain ∙ ap (option_map SampleJob) is
    go (Some n) is = let number = (number_to-decimal 1000 (omega arith) word n).0 is in absurd (none n number.0 number.1 number.2)

pub no_word : job_of (codes "sample" ∷ []) ≡ None
unfolding clap_on_literals
no_word = refl

pub two_words : (first second : Word) (others : List Word) → is_plain first ≡ true → is_plain second ≡ true → job_of (codes "sample" ∷ first ∷ second ∷ others) ≡ None
unfolding clap_on_literals
two_words first second others one two =
    let no = plain_words first one in
    let nor = plain_words second two in
    rw (no.hyphens, no.long, no.short, nor.hyphens, nor.long, nor.short) refl
