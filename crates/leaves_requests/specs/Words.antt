-- The words that name the requests.
use Rattle.std.specs.Prelude.{ℕ, List, [], ◌∷◌}
use Rattle.leaves_requests.specs.declared.requests.Word.{Word}
use Rattle.leaves_requests.specs.declared.requests.Word.TheVariants as word
use Rattle.leaves_requests.specs.declared.requests.Request.{Request}
use Rattle.leaves_requests.specs.declared.requests.Request.TheVariants.{Later, Since, Backoff, Span, Doubling, Probes, Take, Check, Hold, Wait, Params}

-- the bytes of a word
abbrev pub name_of : Word → List ℕ
name_of word.Later = 108 ∷ 97 ∷ 116 ∷ 101 ∷ 114 ∷ []
name_of word.Since = 115 ∷ 105 ∷ 110 ∷ 99 ∷ 101 ∷ []
name_of word.Backoff = 98 ∷ 97 ∷ 99 ∷ 107 ∷ 111 ∷ 102 ∷ 102 ∷ []
name_of word.Span = 115 ∷ 112 ∷ 97 ∷ 110 ∷ []
name_of word.Doubling = 100 ∷ 111 ∷ 117 ∷ 98 ∷ 108 ∷ 105 ∷ 110 ∷ 103 ∷ []
name_of word.Probes = 112 ∷ 114 ∷ 111 ∷ 98 ∷ 101 ∷ 115 ∷ []
name_of word.Take = 116 ∷ 97 ∷ 107 ∷ 101 ∷ []
name_of word.Check = 99 ∷ 104 ∷ 101 ∷ 99 ∷ 107 ∷ []
name_of word.Hold = 104 ∷ 111 ∷ 108 ∷ 100 ∷ []
name_of word.Wait = 119 ∷ 97 ∷ 105 ∷ 116 ∷ []
name_of word.Params = 112 ∷ 97 ∷ 114 ∷ 97 ∷ 109 ∷ 115 ∷ []

-- the word by which a request is named
abbrev pub word_of : Request → Word
word_of (Later _ _) = word.Later
word_of (Since _ _) = word.Since
word_of (Backoff _ _ _) = word.Backoff
word_of (Span _) = word.Span
word_of (Doubling _ _ _) = word.Doubling
word_of (Probes _ _ _ _) = word.Probes
word_of (Take _ _) = word.Take
word_of (Check _) = word.Check
word_of (Hold _ _) = word.Hold
word_of (Wait _ _) = word.Wait
word_of (Params _) = word.Params
