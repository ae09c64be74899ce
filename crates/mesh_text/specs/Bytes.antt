-- Names of bytes: the characters of ASCII (RFC 20) that definitions speak of.
use Rattle.std.specs.Prelude.{ℕ}

-- LF, a newline
abbrev pub newline : ℕ
newline = 10

abbrev pub space : ℕ
space = 32

-- #
abbrev pub hash : ℕ
hash = 35

-- &
abbrev pub ampersand : ℕ
ampersand = 38

-- *
abbrev pub star : ℕ
star = 42

-- -
abbrev pub dash : ℕ
dash = 45

-- .
abbrev pub dot : ℕ
dot = 46

-- /
abbrev pub slash : ℕ
slash = 47

-- the first and the last of 0 to 9
abbrev pub digit_zero : ℕ
digit_zero = 48

abbrev pub digit_nine : ℕ
digit_nine = 57

-- :
abbrev pub colon : ℕ
colon = 58

-- =
abbrev pub equals : ℕ
equals = 61

-- ?
abbrev pub question : ℕ
question = 63

-- the first and the last of A to Z
abbrev pub upper_a : ℕ
upper_a = 65

abbrev pub upper_z : ℕ
upper_z = 90

-- [ and ]
abbrev pub open_bracket : ℕ
open_bracket = 91

abbrev pub close_bracket : ℕ
close_bracket = 93

-- the first and the last of a to z
abbrev pub lower_a : ℕ
lower_a = 97

abbrev pub lower_z : ℕ
lower_z = 122

-- { and }
abbrev pub open_brace : ℕ
open_brace = 123

abbrev pub close_brace : ℕ
close_brace = 125

-- ~
abbrev pub tilde : ℕ
tilde = 126
