-- What declines and answers stand for: a number, 0 if accepted, and the answered words.
use Rattle.std.specs.Prelude.{ℕ, Bool, true, false, List, [], ◌∷◌, Ok, Err, Result}
use Rattle.board.specs.declared.Entry.{Entry}
use Rattle.board.specs.declared.Decline.{Decline}
use Rattle.board.specs.declared.Decline.TheVariants.{WrongMemory, WrongParty, OutOfLimits, WrongPhase, WrongSide, NotPermitted, NotEmpty, WrongOwner}
use Rattle.board.specs.declared.Answer.{Answer}
use Rattle.board.specs.declared.Answer.TheVariants.{Done, Word, Mapped, Attested, Declined}

-- the number, 0 if accepted, and the answered words
pub record Reply : Type 0 where
  pub number : ℕ
  pub words : List ℕ

-- the number of the question that was answered no
abbrev pub decline_number : Decline → ℕ
decline_number WrongMemory = 1
decline_number WrongParty = 2
decline_number OutOfLimits = 3
decline_number WrongPhase = 4
decline_number WrongSide = 5
decline_number NotPermitted = 6
decline_number NotEmpty = 7
decline_number WrongOwner = 8

-- a mark as a word
abbrev pub bit : Bool → ℕ
bit true = 1
bit false = 0

-- an entry as three words: physical page, permission, mark
abbrev pub entry_words : Entry → List ℕ
entry_words t = t.frame ∷ (t.permission ∷ (bit t.accessed ∷ []))

abbrev pub accepting : List ℕ → Reply
accepting ws = record { number = 0; words = ws }

abbrev pub declining : ℕ → Reply
declining n = record { number = n; words = [] }

-- what an answer stands for
abbrev pub reply_of : Answer → Reply
reply_of Done = accepting []
reply_of (Word w) = accepting (w ∷ [])
reply_of (Mapped t) = accepting (entry_words t)
reply_of (Attested ws) = accepting ws
reply_of (Declined d) = declining (decline_number d)

-- the number of a result: 0 if accepted
abbrev pub code : {A : Type 0} → Result A Decline → ℕ
code (Ok x) = 0
code (Err d) = decline_number d

-- what a result stands for; f gives the answered words
abbrev pub reply_by : {A : Type 0} → (A → List ℕ) → Result A Decline → Reply
reply_by f (Ok x) = accepting (f x)
reply_by f (Err d) = declining (decline_number d)

-- the words of a result without any
abbrev pub no_words : Unit {0} → List ℕ
no_words x = []

-- the words of a result of one
abbrev pub one_word : ℕ → List ℕ
one_word w = w ∷ []
