mod Read
mod Asked
mod Found
mod Fits
mod Among
mod Results
