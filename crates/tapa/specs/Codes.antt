-- The response codes that the router, the event queue, the data store and the PSAM parts make, by TAPA's names, and the types that they know by name.
use Rattle.std.specs.Prelude.{ℕ}

-- ---- codes

abbrev pub successful : ℕ
successful = 0x0000

-- rule a: 'Table 1's code for an unknown destination'
abbrev pub invalid_destination : ℕ
invalid_destination = 0xFFF1

-- rule d, and give up
abbrev pub handler_error : ℕ
handler_error = 0xFFF3

-- rule e
abbrev pub handler_busy : ℕ
handler_busy = 0xFFF5

-- rule c
abbrev pub must_be_opened : ℕ
must_be_opened = 0xFFF7

-- rule b, and a command of a wrong shape
abbrev pub unsupported_operation : ℕ
unsupported_operation = 0xFFFB

-- the event queue is empty
abbrev pub no_events : ℕ
no_events = 0xFF72

-- no event of the queue meets the search
abbrev pub no_matching_events : ℕ
no_matching_events = 0xFF73

-- ---- codes of the data store (Tables 124 to 148)

-- a store that is full
abbrev pub insufficient_resources : ℕ
insufficient_resources = 0xFFF6

-- 'Invalid record pointer.'
abbrev pub invalid_record_pointer : ℕ
invalid_record_pointer = 0xFF50

-- 'Invalid File ID'
abbrev pub invalid_file_id : ℕ
invalid_file_id = 0xFF51

-- 'Record too large'
abbrev pub record_too_large : ℕ
record_too_large = 0xFF52

-- 'Search key too large'
abbrev pub search_key_too_large : ℕ
search_key_too_large = 0xFF53

-- 'File seek error. A selected record (key) could not be found.'
abbrev pub file_seek_error : ℕ
file_seek_error = 0xFF56

-- 'Search key already existing'
abbrev pub search_key_existing : ℕ
search_key_existing = 0xFF59

-- ---- types

-- 'A response has type 'FF'.'
abbrev pub response : ℕ
response = 0xFF

abbrev pub icc_command : ℕ
icc_command = 0x42

-- Table 149: the data store's commands
abbrev pub create_file : ℕ
create_file = 0x90

abbrev pub delete_file : ℕ
delete_file = 0x91

abbrev pub add_record : ℕ
add_record = 0x92

abbrev pub get_record : ℕ
get_record = 0x93

abbrev pub update_record : ℕ
update_record = 0x94

abbrev pub find_record : ℕ
find_record = 0x95

abbrev pub delete_record : ℕ
delete_record = 0x96

abbrev pub find_and_delete : ℕ
find_and_delete = 0x97

abbrev pub clear_file : ℕ
clear_file = 0x98

abbrev pub add_event : ℕ
add_event = 0xC0

abbrev pub get_event : ℕ
get_event = 0xC1

abbrev pub find_event : ℕ
find_event = 0xC2

abbrev pub flush_queue : ℕ
flush_queue = 0xC3

abbrev pub open_handler : ℕ
open_handler = 0xF0

abbrev pub close_handler : ℕ
close_handler = 0xF1

-- ---- an address

-- 'category 07 only as '0700''
abbrev pub event_handler : ℕ
event_handler = 0x0700
