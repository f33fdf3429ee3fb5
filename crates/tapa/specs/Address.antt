-- The message: 'An address is a category byte and a sub-address byte, whose top bit asks for an enciphered response.'
use Rattle.std.specs.Prelude.{ℕ, ◌+◌, ◌*◌, ◌/◌, ◌%◌, Bool, leb}

unfoldable pub category_of : ℕ → ℕ
category_of a = a / 256

unfoldable pub sub_address_of : ℕ → ℕ
sub_address_of a = a % 256

-- 'Its handler is the address with that bit cleared.'
unfoldable pub handler_of : ℕ → ℕ
handler_of a = a / 256 * 256 + a % 256 % 128

-- 'House: 00 and 01 are multi (one command a thread), all others single (one altogether).'
unfoldable pub multi : ℕ → Bool
multi a = leb (a / 256) 1

-- ---- 'Categories (Table 2)'

abbrev pub psam : ℕ
psam = 0x00

abbrev pub till_driver : ℕ
till_driver = 0x01

abbrev pub card : ℕ
card = 0x02

abbrev pub user_interface : ℕ
user_interface = 0x03

abbrev pub merchant : ℕ
merchant = 0x04

abbrev pub data_store : ℕ
data_store = 0x05

abbrev pub communication : ℕ
communication = 0x06

abbrev pub event : ℕ
event = 0x07
