mod Changing
mod Inclusion
